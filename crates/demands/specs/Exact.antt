-- "Total and refusing", "Exact": demands 1 and 2 over every entry in every world, over every survey and boot check of lent memory, and over every
-- line to be written. That an entry ends and takes every input is its contract, which has no `requires` and equates it with the definition that is
-- named here. Assumes nothing: these are definitions.
use Rattle.std.specs.Prelude.{ℕ, ◌%◌, ◌≤◌, ◌<◌, ◌^◌, ◌≡◌, ◌↔◌, ◌⊎◌, ◌≢◌, List, true, length}
use Rattle.terms.specs.Answers.{number_of, value_of}
use Rattle.terms.specs.Bench.{Hold}
use Rattle.terms.specs.declared.ByteCount.{ByteCount}
use Rattle.table.specs.Line.{read_of}
use Rattle.table.specs.Written.{write_of, line_answer}
use Rattle.table.specs.declared.survey.Kind.TheVariants.{Well}
use Rattle.table.specs.Survey.{survey_trace, survey_of, figures_of, boot_of, yes_of}
use Rattle.table.specs.declared.line.Line.{Line}
use Rattle.controller.specs.Bench.{paper_rows}
use Rattle.controller.specs.Steps.{Step, World, Result, step_of, lent}
use Rattle.controller.specs.Rows.{Row1, Row2, Row3, Row4, Row5, Row6, Row7, Row8, Row9, Row10, Row11}

-- the number that a step answers
abbrev pub number : World → Step → ℕ
number w e = number_of (step_of w e).answer

-- demand 1, of a step in a world
pub record Refusing (w : World) (e : Step) : Type 0 where
  -- "refuses exactly what document 01 refuses": row by row
  pub row_1 : (number w e ≡ 1) ↔ Row1 w e
  pub row_2 : (number w e ≡ 2) ↔ Row2 w e
  pub row_3 : (number w e ≡ 3) ↔ Row3 w e
  pub row_4 : (number w e ≡ 4) ↔ Row4 w e
  pub row_5 : (number w e ≡ 5) ↔ Row5 w e
  pub row_6 : (number w e ≡ 6) ↔ Row6 w e
  pub row_7 : (number w e ≡ 7) ↔ Row7 w e
  pub row_8 : (number w e ≡ 8) ↔ Row8 w e
  pub row_9 : (number w e ≡ 9) ↔ Row9 w e
  pub row_10 : (number w e ≡ 10) ↔ Row10 w e
  pub row_11 : (number w e ≡ 11) ↔ Row11 w e
  -- and nothing else: 12 and 17 are a survey's and a written line's
  pub no_other : number w e < 12
  -- "A refusal gives its number and changes no register, no state, no lent byte."
  pub nothing : number w e ≢ 0 → (value_of (step_of w e).answer ≡ 0) × ((step_of w e).world ≡ w) × ((step_of w e).room ≡ lent e)

-- demand 1, of a survey and of the boot check: lent memory, a start, the bytes owed and a line limit. The memory is lent to be read only, so no byte
-- of it can change.
pub record Surveying (mem : List ℕ) (start : ℕ) (owed : ByteCount) (n : ℕ) : Type 0 where
  -- "lent memory over 16,777,216 bytes"; "11 before 12"; "survey limit over 4,096"; and nothing else is refused
  pub row_11 : (number_of (survey_of mem start owed n) ≡ 11) ↔ (16777216 < length mem)
  pub row_12 : (number_of (survey_of mem start owed n) ≡ 12) ↔ ((length mem ≤ 16777216) × (4096 < n))
  pub row_0 : (number_of (survey_of mem start owed n) ≡ 0) ↔ ((length mem ≤ 16777216) × (n ≤ 4096))
  -- "All but 0 have value 0 (each field of a survey too)"
  pub zeros : number_of (survey_of mem start owed n) ≢ 0 → figures_of (survey_of mem start owed n)
      ≡ record { kind = 0; state = 0; lines = 0; bytes = 0; after = 0 }
  -- "The boot check ... says yes exactly on kind 0; 11 is passed on with no."
  pub boot_11 : (number_of (boot_of mem start owed) ≡ 11) ↔ (16777216 < length mem)
  pub boot_0 : (number_of (boot_of mem start owed) ≡ 0) ↔ (length mem ≤ 16777216)
  pub boot_yes : (yes_of (boot_of mem start owed) ≡ true) ↔ ((length mem ≤ 16777216) × ((survey_trace mem start owed 0).kind ≡ Well))

-- demand 1, of a line to be written into lent room
pub record Writing (room : List ℕ) (l : Line) : Type 0 where
  -- "room not 8 bytes", "length 0 or over 65,536", "address not a multiple of 4"
  pub row_17 : (number_of (write_of room l).0 ≡ 17)
      ↔ ((length room ≢ 8) ⊎ (l.length.0 ≡ 0) ⊎ (65536 < l.length.0) ⊎ (l.address % 4 ≢ 0))
  -- and nothing else
  pub no_other : (number_of (write_of room l).0 ≡ 0) ⊎ (number_of (write_of room l).0 ≡ 17)
  -- "All but 0 have value 0 ... and change nothing."
  pub nothing : number_of (write_of room l).0 ≢ 0 → (value_of (line_answer (write_of room l).0) ≡ 0) × ((write_of room l).1 ≡ room)

-- demand 2
pub record Exact : Type 0 where
  -- "Every answer, register and byte after a step is what document 01 says": each contract equates its entry with `step_of`, so it allows one outcome. Which
  -- one that is, the definitions say; the rows of demand 1 and the bench values hold them against the paper
  pub one_outcome : (w : World) (e : Step) (a b : Result) → a ≡ step_of w e → b ≡ step_of w e → a ≡ b
  -- "Descriptor lines read back as they were written."
  pub read_back : (room : List ℕ) (l : Line) → l.address < 2 ^ 32 → number_of (write_of room l).0 ≡ 0 → read_of (write_of room l).1 ≡ l
  -- "P1 to P10 are one list and one theorem"
  pub paper : Hold paper_rows
