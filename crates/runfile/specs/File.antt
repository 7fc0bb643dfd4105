-- "A run file is little-endian: three sections in this order and nothing more, each after its 32-bit count". Assumes nothing: these are definitions.
use Rattle.std.specs.Prelude.{◌≡◌, ◌≤◌, ℕ, zero, suc, ◌+◌, ◌*◌, List, Bool, true, cond, ◌&&◌, length, get_or, eqb, ltb, leb, Option, Some, None, Result, Ok, Err}
use Rattle.runfile.specs.declared.file.Layout.{Layout}
use Rattle.runfile.specs.declared.file.Kind.{Kind}
use Rattle.runfile.specs.declared.file.Kind.TheVariants as kind
use Rattle.runfile.specs.declared.file.UnknownKind.{UnknownKind}
use Rattle.runfile.specs.declared.file.Step.{Step}

abbrev pub byte_at : List ℕ → ℕ → ℕ
byte_at file at = get_or file at 0

-- "little-endian": 32 bits
unfoldable pub word_at : List ℕ → ℕ → ℕ
word_at file at = byte_at file at + 256 * byte_at file (at + 1) + 65536 * byte_at file (at + 2) + 16777216 * byte_at file (at + 3)

-- "memory bytes (to 32,768), steps of 20 bytes (to 512), card bytes (to 16,384)"
abbrev pub memory_most : ℕ
memory_most = 32768

abbrev pub steps_most : ℕ
steps_most = 512

abbrev pub card_most : ℕ
card_most = 16384

abbrev pub step_size : ℕ
step_size = 20

-- where the sections begin
abbrev pub memory_base : ℕ
memory_base = 4

abbrev pub steps_base : ℕ → ℕ
steps_base memory = 8 + memory

abbrev pub card_base : ℕ → ℕ → ℕ
card_base memory steps = 12 + memory + step_size * steps

-- so much of each section
abbrev pub laid : ℕ → ℕ → ℕ → Layout
laid memory steps card = record { memory = memory; steps = steps; card = card }

-- the sections, if their counts are within the limits and they fill the file
unfoldable pub layout_of : List ℕ → Option Layout
layout_of file =
    let memory = word_at file 0 in
    let steps = word_at file (4 + memory) in
    let card = word_at file (8 + memory + step_size * steps) in
    cond (ltb memory_most memory) None
    (cond (ltb steps_most steps) None
    (cond (ltb card_most card) None
    (cond (eqb (length file) (12 + memory + step_size * steps + card)) (Some (laid memory steps card)) None)))

-- the sections are within their limits, and fill the file
pub record Fills (file : List ℕ) (l : Layout) : Type 0 where
  pub memory : l.memory ≤ memory_most
  pub steps : l.steps ≤ steps_most
  pub whole : card_base l.memory l.steps + l.card ≡ length file

-- "A step: kind, detail, 16-bit offset, four 32-bit words."
unfoldable pub step_at : List ℕ → ℕ → Step
step_at file at =
    record {
      kind = byte_at file at;
      detail = byte_at file (at + 1);
      offset = byte_at file (at + 2) + 256 * byte_at file (at + 3);
      first = word_at file (at + 4);
      second = word_at file (at + 8);
      third = word_at file (at + 12);
      fourth = word_at file (at + 16);
    }

-- "Kinds: 0 write, 1 read, 2 in, 3 out, 4 response, 5 given, 6 taken, 7 busy over, 8 data error, 9 level, 10 turn."
abbrev pub kind_of : ℕ → Result Kind UnknownKind
kind_of n =
    cond (eqb n 0) (Ok kind.Write)
    (cond (eqb n 1) (Ok kind.Read)
    (cond (eqb n 2) (Ok kind.CardIn)
    (cond (eqb n 3) (Ok kind.CardOut)
    (cond (eqb n 4) (Ok kind.Respond)
    (cond (eqb n 5) (Ok kind.Given)
    (cond (eqb n 6) (Ok kind.Taken)
    (cond (eqb n 7) (Ok kind.BusyOver)
    (cond (eqb n 8) (Ok kind.DataError)
    (cond (eqb n 9) (Ok kind.Level)
    (cond (eqb n 10) (Ok kind.Turn) (Err (record { 0 = n }))))))))))))

-- ---- "Unused fields must be 0."

-- the last three words
abbrev pub no_rest : Step → Bool
no_rest s = eqb s.second 0 && (eqb s.third 0 && eqb s.fourth 0)

abbrev pub no_words : Step → Bool
no_words s = eqb s.first 0 && no_rest s

abbrev pub no_offset : Step → Bool
no_offset s = eqb s.offset 0

abbrev pub no_detail : Step → Bool
no_detail s = eqb s.detail 0

-- "Kinds: 0 write (detail width, first word value), 1 read (detail width), 2 in, 3 out, 4 response (detail, all four words), 5 given, 6 taken
-- (room 512), 7 busy over, 8 data error (detail), 9 level (detail 0 or 1), 10 turn."
abbrev pub step_good : Step → Bool
step_good s =
    cond (eqb s.kind 0) (no_rest s)
    (cond (eqb s.kind 1) (no_words s)
    (cond (eqb s.kind 4) (no_offset s)
    (cond (eqb s.kind 8) (no_offset s && no_words s)
    (cond (eqb s.kind 9) (leb s.detail 1 && (no_offset s && no_words s))
    (leb s.kind 10 && (no_detail s && (no_offset s && no_words s)))))))

-- the first n steps from a place on
unfoldable pub steps_good : List ℕ → ℕ → ℕ → Bool
steps_good file base zero = true
steps_good file base (suc n) = steps_good file base n && step_good (step_at file (base + step_size * n))

-- "A wrong count, field, kind or length prints only `bad file`."
abbrev pub laid_good : Option Layout → List ℕ → Option Layout
laid_good None file = None
laid_good (Some l) file = cond (steps_good file (steps_base l.memory) l.steps) (Some l) None

abbrev pub good_of : List ℕ → Option Layout
good_of file = laid_good (layout_of file) file
