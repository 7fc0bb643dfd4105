-- Which writes issue a command, and that Command Inhibit (DAT) refuses none of them. Assumes nothing.
use Prim.Native.Nat.{ℕ, ◌+◌, ◌%◌, ◌≤◌, ◌<◌}
use native.Mathlib.Omega.{arith}
use mathlib.Core.Path.{◌≡◌, ◌∙◌}
use mathlib.Core.Logic.{◌↔◌, ◌⊎◌, inl, inr, ⊎_elim}
use mathlib.Core.Bool.{true, false}
use Rattle.std.specs.Prelude.{Some}
use Rattle.registers.specs.Place.{place_of, guarded, issues}
use Rattle.registers.specs.declared.place.Taker.TheVariants.{Order}
use Rattle.registers.specs.declared.place.Word.{Word}
use Rattle.registers.specs.declared.place.Word.TheVariants.{Takes}
use Rattle.registers.proofs.Tests.{fails}
use Rattle.registers.proofs.Lanes.{Width}
use Rattle.registers.proofs.Exactly.{place_lies, guarded_exactly, touches_exactly, word_touched}
use Rattle.registers.proofs.Access.{order_at}

-- 00Fh/1, 00Eh/2 and 00Ch/4
abbrev pub Issuing : ℕ → ℕ → Type 0
Issuing offset width = ((offset ≡ 0x00F) × (width ≡ 1)) ⊎ (((offset ≡ 0x00E) × (width ≡ 2)) ⊎ ((offset ≡ 0x00C) × (width ≡ 4)))

-- "Byte 00Fh issues": the accesses that do are these
pub issues_exactly : (offset width : ℕ) (w : Word) (lane n : ℕ) → place_of offset width ≡ Some (record { word = w; lane = lane; width = n })
    → (issues offset width ≡ true) ↔ Issuing offset width
issues_exactly offset width w lane n e =
    let (cases, (even, _)) = (place_lies offset width w lane n e).access in
    (λ h. which cases even ((touches_exactly 0x00F offset width).0 h), each)
  where
    which : Width width → offset % width ≡ 0 → (offset ≤ 0x00F) × (0x00F < offset + width) → Issuing offset width
    which (inl c) even h = inl (omega arith, c)
    which (inr (inl c)) even h = let d : offset % 2 ≡ 0 = rw c at even in inr (inl (omega arith, c))
    which (inr (inr c)) even h = let d : offset % 4 ≡ 0 = rw c at even in inr (inr (omega arith, c))

    each : Issuing offset width → issues offset width ≡ true
    each (inl (a, b)) = rw (a, b)
    each (inr (inl (a, b))) = rw (a, b)
    each (inr (inr (a, b))) = rw (a, b)

-- so an access that issues is to Transfer Mode and Command, 00Ch-00Fh
pub issues_order : (offset width : ℕ) (w : Word) (lane n : ℕ) → place_of offset width ≡ Some (record { word = w; lane = lane; width = n })
    → issues offset width ≡ true → w ≡ Takes Order
issues_order offset width w lane n e h = word_touched offset width 0x00F w lane n e h ∙ order_at

-- and is never one that is refused "while Command Inhibit (DAT) is 1"
pub issues_unguarded : (offset width : ℕ) → issues offset width ≡ true → guarded offset width ≡ false
issues_unguarded offset width h =
    let around = (touches_exactly 0x00F offset width).0 h in
    (fails _ (guarded_exactly offset width)).1 (⊎_elim (λ g. omega arith) (λ g. omega arith))
