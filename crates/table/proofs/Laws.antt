-- Laws of a line and of its fetch. Assumes nothing.
use Prim.Native.Nat.{ℕ, zero, suc, ◌+◌, ◌≤◌, ◌<◌}
use native.Mathlib.Omega.{arith}
use mathlib.Core.Path.{◌≡◌, refl}
use mathlib.Core.List.{List, []}
use mathlib.Core.Bool.{Bool, true, false, cond}
use lib.ListN.{length, take, drop}
use lib.Dec.{ltb, eqb}
use borrow.Author.Tests.{leb-true, ltb-false, eqb-false}
use Rattle.terms.specs.declared.ByteCount.{ByteCount}
use Rattle.table.specs.Memory.{in_memory}
use Rattle.table.specs.Line.{line_size, line_bytes, byte_of, half_of, length_of, address_of, flags_of, act_of}
use Rattle.table.specs.Fetch.{next_line, data_of, tran_of, acted_of, fetch_of}
use Rattle.table.specs.declared.fetch.Failure.TheVariants as failure
use Rattle.table.specs.declared.line.Act.{Act}
use Rattle.table.specs.declared.line.Act.TheVariants.{Tran, Link, Other}
use Rattle.table.specs.declared.fetch.Fetched.{Fetched}
use Rattle.table.specs.declared.fetch.Fetched.TheVariants.{Fault, Step, Data}

-- a line with Valid 1 is all in memory
pub line_there : (mem : List ℕ) (at : ℕ) → (flags_of (line_bytes mem at)).valid ≡ true → at + line_size ≤ length mem
unfolding flags_of byte_of
line_there mem at = go (in_memory (length mem) at line_size) refl
  where
    go : (t : Bool) → in_memory (length mem) at line_size ≡ t → (flags_of (cond t (take line_size (drop at mem)) [])).valid ≡ true → at + line_size ≤ length mem
    go true e h = leb-true _ _ e
    go false e h = let z : ◌≡◌ {A = ℕ} 0 1 = cc in absurd (omega arith)

-- a sound Tran line names at least one byte, no more than are owed, and all of them lie in memory
abbrev pub Good : ℕ → ByteCount → Fetched → Type 0
Good size owed (Fault state next) = Unit
Good size owed (Step next last int) = Unit
Good size owed (Data next h) = (0 < h.rest.0) × (h.rest.0 ≤ owed.0) × (h.at + h.rest.0 ≤ size)

length_pos : (l : List ℕ) → 0 < length_of l
unfolding length_of
length_pos l = go (half_of l 2) (eqb (half_of l 2) 0) refl
  where
    go : (n : ℕ) (t : Bool) → eqb n 0 ≡ t → 0 < cond t 65536 n
    go n true e = omega arith
    go zero false e = absurd (eqb-false zero 0 e refl)
    go (suc n) false e = omega arith

tran_good : (l : List ℕ) (next size : ℕ) (owed : ByteCount) → Good size owed (tran_of l next size owed)
tran_good l next size owed = go (ltb owed.0 (length_of l)) (in_memory size (address_of l) (length_of l)) refl refl
  where
    go : (t u : Bool) → ltb owed.0 (length_of l) ≡ t → in_memory size (address_of l) (length_of l) ≡ u
        → Good size owed (cond t (Fault failure.TooLong next) (cond u (data_of l next) (Fault failure.Beyond next)))
    go true u e f = tt
    go false false e f = tt
    go false true e f = (length_pos l, ltb-false _ _ e, leb-true _ _ f)

acted_good : (act : Act) (l : List ℕ) (at size : ℕ) (owed : ByteCount) → Good size owed (acted_of act l at size owed)
acted_good Tran l at size owed = tran_good l (next_line at) size owed
acted_good Link l at size owed = tt
acted_good Other l at size owed = tt

pub fetch_good : (mem : List ℕ) (at : ℕ) (owed : ByteCount) → Good (length mem) owed (fetch_of mem at owed)
unfolding fetch_of
fetch_good mem at owed = go (line_bytes mem at) (flags_of (line_bytes mem at)).valid
  where
    go : (l : List ℕ) (t : Bool) → Good (length mem) owed (cond t (acted_of (act_of (flags_of l)) l at (length mem) owed) (Fault failure.Unsound at))
    go l true = acted_good (act_of (flags_of l)) l at (length mem) owed
    go l false = tt
