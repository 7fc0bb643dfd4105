-- Bytes still owed at the End line are the error of state 00 with Mismatch. Assumes nothing.
use Prim.Native.Nat.{ℕ, zero, suc}
use mathlib.Core.Path.{◌≡◌, refl}
use mathlib.Core.Bool.{true}
use Rattle.table.specs.declared.fetch.Failure.TheVariants as failure
use Rattle.engine.specs.Transfer.{settled}
use Rattle.engine.specs.declared.transfer.Next.TheVariants.{Fail}

pub owing : (n left held : ℕ) → (n ≡ 0 → ⊥) → settled true n left held ≡ Fail failure.Owing
unfolding settled
owing zero left held h = absurd (h refl)
owing (suc n) left held h = refl
