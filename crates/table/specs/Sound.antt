-- What a table says of itself, whatever is owed and wherever memory ends: its lines up to End, and the data that they name. A survey goes
-- well exactly when this is there, lies in memory and adds up (`proofs/Sound`). Assumes nothing: these are definitions.
use Rattle.std.specs.Prelude.{ℕ, zero, suc, ◌+◌, ◌≤◌, ◌≡◌, List, [], ◌∷◌, ◌++◌, Bool, true, false, length}
use Rattle.std.proofs.Math.Option.{Option, none, some}
use Rattle.terms.specs.declared.ByteCount.{ByteCount}
use Rattle.table.specs.Line.{line_bytes, length_of, address_of, flags_of, act_of}
use Rattle.table.specs.Fetch.{next_line}
use Rattle.table.specs.Trace.{Area, total}
use Rattle.table.specs.declared.line.Act.{Act}
use Rattle.table.specs.declared.line.Act.TheVariants.{Tran, Link, Other}

-- the data that a line names
unfoldable pub areas_of : List ℕ → Act → List Area
areas_of l Tran = record { at = address_of l; len = length_of l } ∷ []
areas_of l Link = []
areas_of l Other = []

-- the line after it
unfoldable pub next_of : ℕ → List ℕ → Act → ℕ
next_of at l Tran = next_line at
next_of at l Link = address_of l
next_of at l Other = next_line at

unfoldable pub joined : List Area → Option (List Area) → Option (List Area)
joined r none = none
joined r (some q) = some (r ++ q)

unfoldable pub beyond : (ℕ → Option (List Area)) → Bool → ℕ → Option (List Area)
beyond rest true at = some []
beyond rest false at = rest at

unfoldable pub linked : (ℕ → Option (List Area)) → ℕ → List ℕ → Bool → Option (List Area)
linked rest at l false = none
linked rest at l true = joined (areas_of l (act_of (flags_of l))) (beyond rest (flags_of l).end (next_of at l (act_of (flags_of l))))

-- the data that a table names: there if each line that it leads to is all in memory with Valid 1, and one of the first n has End
unfoldable pub data_of_table : List ℕ → ℕ → ℕ → Option (List Area)
data_of_table mem zero at = none
data_of_table mem (suc n) at = linked (λ next. data_of_table mem n next) at (line_bytes mem at) (flags_of (line_bytes mem at)).valid

-- data lies in a memory of so many bytes
abbrev pub Inside : ℕ → List Area → Type 0
Inside size [] = Unit
Inside size (a ∷ r) = (a.at + a.len ≤ size) × Inside size r

-- a table is sound for the bytes owed: its data is there, lies in memory, and is just what is owed
pub record Sound (mem : List ℕ) (n at : ℕ) (owed : ByteCount) (named : List Area) : Type 0 where
  pub there : data_of_table mem n at ≡ some named
  pub inside : Inside (length mem) named
  pub adds : total named ≡ owed
