-- "P1 to P10 are one list": the bench values, each what the definitions give and what the paper says. Assumes nothing: these are definitions.
use Rattle.std.specs.Prelude.{ℕ, List, [], ◌∷◌}
use Rattle.terms.specs.Answers.{number_of, value_of}
use Rattle.terms.specs.Bench.{Row}
use Rattle.table.specs.Bench.{bench_rows}
use Rattle.controller.specs.Slot.{power_on}
use Rattle.controller.specs.Access.{read_of}
use Rattle.controller.specs.Card.{in_of}
use Rattle.controller.specs.declared.slot.Slot.{Slot}

-- a read of 024h: answer and value
abbrev pub present_row : Slot → ℕ → Row
present_row s value =
    record { given = number_of (read_of s 0x024 4).answer ∷ value_of (read_of s 0x024 4).answer ∷ []; said = 0 ∷ value ∷ [] }

-- P1 to P10
abbrev pub paper_rows : List Row
paper_rows = present_row power_on 0x01FA0000 ∷ present_row (in_of power_on).slot 0x01FF0000 ∷ bench_rows
