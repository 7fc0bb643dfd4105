-- A write inside 030h to 033h is answered 1, or it acknowledges and does nothing else. Assumes nothing.
use Prim.Native.Nat.{ℕ, ◌+◌, ◌*◌, ◌/◌, ◌≤◌}
use native.Mathlib.Omega.{arith}
use mathlib.Core.Path.{◌≡◌, refl, sym, ap, ◌∙◌}
use mathlib.Core.Logic.{inl}
use Rattle.registers.specs.Word.{inhibits}
use Rattle.std.specs.Prelude.{Option, Some, None, Ok, Err}
use Rattle.registers.specs.Access.{take_from, take_of}
use Rattle.registers.specs.declared.place.Taker.TheVariants.{Status}
use Rattle.registers.specs.declared.place.Word.{Word}
use Rattle.registers.specs.declared.place.Word.TheVariants.{Takes}
use Rattle.registers.specs.declared.place.Target.{Target}
use Rattle.registers.proofs.Lanes.{spans}
use Rattle.registers.proofs.Exactly.{place_lies, misses_exactly}
use Rattle.controller.specs.Access.{write_at, write_of}
use Rattle.controller.proofs.Causes.{by_test}
use Rattle.terms.specs.Answers.{Answer}
use Rattle.terms.specs.declared.Refusal.TheVariants.{NoPlace, DatInhibited}
use Rattle.controller.specs.Slot.{Stepped, use_of, with_sides, stepped_as}
use Rattle.controller.specs.declared.slot.Slot.{Slot}
use Rattle.registers.specs.Interrupt.{acknowledged}
use Rattle.registers.specs.Block.{with_interrupts}
use Rattle.registers.specs.Place.{Place, words, find, word_at, place_of, fits_of, placed_of, aimed, target_of}

-- "the driver writes only the interrupt status registers": what holds of a refusal and of any acknowledgement holds of such a write
pub write_acknowledges : (P : Stepped → Type 0) (s : Slot) (offset width value : ℕ) → 0x030 ≤ offset → offset + width ≤ 0x034
    → ((a : Answer) → P (stepped_as a s))
    → ((bits : ℕ) → P (stepped_as (Ok 0) (with_sides s (with_interrupts s.registers (acknowledged bits s.registers.interrupts)) s.command s.dat)))
    → P (write_of s offset width value)
unfolding target_of words find word_at take_of take_from
write_acknowledges P s offset width value low high kept made = go (place_of offset width) refl
  where
    status : (word : Word) (lane n : ℕ) → place_of offset width ≡ Some (record { word = word; lane = lane; width = n }) → word ≡ Takes Status
    status word lane n e =
        let at = place_lies offset width word lane n e in
        let s = spans offset width at.access.0 at.access.1.0 in
        let base : offset / 4 * 4 ≡ 0x030 = omega arith in
        sym at.word ∙ ap word_at base

    go : (p : Option Place) → place_of offset width ≡ p → P (write_at (aimed value p) s offset width)
    go None e = kept (Err NoPlace)
    go (Some p) e =
        rw (status p.word p.lane p.width e)
        (by_test (λ (t : Option Target). P (write_at t s offset width)) (fits_of p.width value)
        (λ fits. rw ((misses_exactly 0x00F offset width).1 (inl (omega arith)), (misses_exactly 0x02F offset width).1 (inl (omega arith)))
        (by_test P (inhibits (use_of s.dat) offset width) (λ h. kept (Err DatInhibited)) (λ h. made (placed_of p.lane value))))
        (λ fits. kept (Err NoPlace)))
