-- A flag as a number, as registers and lines hold it. Assumes nothing: this is a definition.
use Rattle.std.specs.Prelude.{ℕ, Bool, true, false}

-- a bit that stands counts 1
abbrev pub unit_of : Bool → ℕ
unit_of true = 1
unit_of false = 0
