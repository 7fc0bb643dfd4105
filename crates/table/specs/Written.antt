-- "A line is also written, from its five flags, length and address." Assumes nothing: these are definitions.
use Rattle.std.specs.Prelude.{ℕ, ◌+◌, ◌*◌, ◌/◌, ◌%◌, List, [], ◌∷◌, Bool, cond, ◌&&◌, length, leb, eqb, ⊤, Result, Ok, Err}
use Rattle.terms.specs.Flag.{unit_of}
use Rattle.terms.specs.declared.Refusal.{Refusal}
use Rattle.terms.specs.declared.Refusal.TheVariants.{LineRefused}
use Rattle.terms.specs.Answers.{Answer}
use Rattle.table.specs.Line.{line_size}
use Rattle.table.specs.declared.line.Flags.{Flags}
use Rattle.table.specs.declared.line.Line.{Line}

-- "Byte 0: Valid 1, End 2, Int 4, Act1 10h, Act2 20h; other bits and byte 1 ... written as 0."
abbrev pub flag_byte : Flags → ℕ
flag_byte f = unit_of f.valid + 2 * unit_of f.end + 4 * unit_of f.int + 16 * unit_of f.act1 + 32 * unit_of f.act2

-- the eight bytes of a line, little-endian; a length of 65,536 leaves 0 in bytes 2 and 3
abbrev pub line_of : Line → List ℕ
line_of l =
    flag_byte l.flags
    ∷ 0
    ∷ l.length.0 % 256
    ∷ l.length.0 / 256 % 256
    ∷ l.address % 256
    ∷ l.address / 256 % 256
    ∷ l.address / 65536 % 256
    ∷ l.address / 16777216 % 256
    ∷ []

-- not 17: neither "length 0 or over 65,536" nor "address not a multiple of 4"
abbrev pub writable : Line → Bool
writable l = leb 1 l.length.0 && (leb l.length.0 65536 && eqb (l.address % 4) 0)

-- the answer and the room after it: 17 also for "room not 8 bytes", and then the room stays as it is
abbrev pub write_of : List ℕ → Line → Result ⊤ Refusal × List ℕ
write_of room l = cond (eqb (length room) line_size && writable l) (Ok tt, line_of l) ((Err LineRefused), room)

-- its number and its value: a line that is written has value 0
abbrev pub line_answer : Result ⊤ Refusal → Answer
line_answer (Ok done) = Ok 0
line_answer (Err refusal) = Err refusal
