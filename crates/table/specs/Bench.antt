-- "Bench values (P: proved)": the rows P3 to P10, each what the definitions give and what the paper says. P1 and P2 speak of Present State
-- and join the list above this crate. Assumes nothing: these are definitions.
use Rattle.std.specs.Prelude.{ℕ, List, [], ◌∷◌, Result}
use Rattle.terms.specs.Counts.{bytes}
use Rattle.terms.specs.Answers.{number_of}
use Rattle.terms.specs.declared.Refusal.{Refusal}
use Rattle.terms.specs.Bench.{Row}
use Rattle.table.specs.Line.{length_of}
use Rattle.table.specs.Survey.{figures_of, survey_of}
use Rattle.table.specs.declared.survey.Report.{Report}

-- the worked example's memory, with another first byte or line address
abbrev pub memory : ℕ → ℕ → List ℕ
memory first address =
    first ∷ 0 ∷ 8 ∷ 0 ∷ address ∷ 0 ∷ 0 ∷ 0 ∷ 0 ∷ 0 ∷ 0 ∷ 0 ∷ 0 ∷ 0 ∷ 0 ∷ 0 ∷ 0x11 ∷ 0x22 ∷ 0x33 ∷ 0x44 ∷ 0x55 ∷ 0x66 ∷ 0x77 ∷ 0x88 ∷ []

-- answer, kind, 054h byte, lines, bytes, address
abbrev pub numbers : Result Report Refusal → List ℕ
numbers s = let f = figures_of s in number_of s ∷ f.kind ∷ f.state ∷ f.lines ∷ f.bytes ∷ f.after ∷ []

-- a survey from 0 with limit 0
abbrev pub surveyed : List ℕ → ℕ → List ℕ → Row
surveyed mem owed said = record { given = numbers (survey_of mem 0 (bytes owed) 0); said = said }

abbrev pub bench_rows : List Row
bench_rows =
    record { given = length_of (0x21 ∷ 0 ∷ 0 ∷ 0 ∷ 0 ∷ 0 ∷ 0 ∷ 0 ∷ []) ∷ []; said = 65536 ∷ [] }  -- P3
    ∷ surveyed (memory 0x23 0x10) 8 (0 ∷ 0 ∷ 0x00 ∷ 1 ∷ 8 ∷ 8 ∷ [])  -- P4
    ∷ surveyed (memory 0x23 0x10) 16 (0 ∷ 1 ∷ 0x04 ∷ 1 ∷ 8 ∷ 8 ∷ [])  -- P5
    ∷ surveyed (memory 0x23 0x10) 4 (0 ∷ 1 ∷ 0x07 ∷ 1 ∷ 0 ∷ 8 ∷ [])  -- P6
    ∷ surveyed (memory 0x23 0x14) 8 (0 ∷ 1 ∷ 0x03 ∷ 1 ∷ 0 ∷ 8 ∷ [])  -- P7
    ∷ surveyed (memory 0x22 0x10) 8 (0 ∷ 1 ∷ 0x01 ∷ 1 ∷ 0 ∷ 0 ∷ [])  -- P8
    ∷ surveyed [] 8 (0 ∷ 1 ∷ 0x01 ∷ 1 ∷ 0 ∷ 0 ∷ [])  -- P9
    ∷ surveyed (0x31 ∷ 0 ∷ 0 ∷ 0 ∷ 0 ∷ 0 ∷ 0 ∷ 0 ∷ []) 8 (0 ∷ 2 ∷ 0x00 ∷ 64 ∷ 0 ∷ 0 ∷ [])  -- P10
    ∷ []
