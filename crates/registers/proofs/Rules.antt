-- What 029h, 02Ch and 00Ch make of a write: power and clock with their conditions, the stable bit, the mode that is kept. Assumes nothing.
use Prim.Native.Nat.{ℕ, ◌*◌, ◌/◌, ◌%◌}
use native.Mathlib.Omega.{arith}
use mathlib.Core.Path.{◌≡◌, refl, sym, ◌∙◌}
use mathlib.Core.Bool.{Bool, true, false, not, ◌&&◌, ◌||◌, and-true, and-false, and_assoc, or-false}
use lib.Bits.{bit_and}
use lib.Dec.{eqb, ltb}
use Rattle.registers.specs.Bits.{bit_of, field, bit, put}
use Rattle.registers.specs.Word.{order_bits, host_bits, clock_bits, in_use, stays, host_after, clock_after}
use Rattle.registers.specs.Block.{mode_of}
use Rattle.registers.specs.Access.{shown_of, take_from, take_of}
use Rattle.registers.specs.declared.place.Taker.TheVariants.{Order, Clock}
use Rattle.registers.specs.declared.place.Word.TheVariants.{Takes}
use Rattle.registers.specs.declared.place.Edit.{Edit}
use Rattle.registers.specs.declared.word.Facts.{Facts}
use Rattle.registers.specs.declared.block.Registers.{Registers}
use Rattle.registers.proofs.Sets.{bit_zero, bit_suc, bit_and_lem, bit_or_lem, bit_without, bit_put, bit_ones, bit_mod, same_bits}
use Rattle.registers.proofs.Parted.{bit_stays}
use Rattle.registers.proofs.Derived.{within_none}
use Rattle.registers.proofs.Reserved.{Clean}

-- ---- a bit that stays 1 only with others and with a card in

-- in a written byte: the written bit, a card, and the others as that write has them
stays_written : (card : Bool) (needs one mask : ℕ) (e : Edit) (old k : ℕ)
    → bit_of e.lanes k ≡ true → bit_of one k ≡ true → bit_of mask k ≡ true → bit_and mask needs ≡ needs
    → bit_of (put old e.lanes (stays card needs one (bit_and e.bits mask))) k
    ≡ (bit_of e.bits k && (card && eqb (bit_and e.bits needs) needs))
stays_written card needs one mask e old k l b m inside =
    simp (bit_put, bit_stays, bit_and_lem, l, b, m, masked, and-true, and-false, or-false)
  where
    masked : bit_and (bit_and e.bits mask) needs ≡ bit_and e.bits needs
    masked = same_bits _ _ (λ j. let in-it = rw inside at (sym (bit_and_lem mask needs j)) in simp (bit_and_lem, and_assoc, in-it))

-- "029h: ... bit 0 stays 1 only with a card in and bits 3-1 = 111b."
pub power_written : (card : Bool) (e : Edit) (old : ℕ) → bit_of e.lanes 8 ≡ true
    → bit_of (host_after card e old) 8 ≡ (bit_of e.bits 8 && (card && eqb (bit_and e.bits (field 11 9)) (field 11 9)))
unfolding bit_of
power_written card e old l = stays_written card (field 11 9) (bit 8) host_bits e old 8 l refl refl refl

-- "02Ch: ... bit 2 stays 1 only with bit 0 and a card in."
pub clock_written : (card : Bool) (e : Edit) (old : ℕ) → bit_of e.lanes 2 ≡ true
    → bit_of (clock_after card e old) 2 ≡ (bit_of e.bits 2 && (card && eqb (bit_and e.bits (bit 0)) (bit 0)))
unfolding bit_of
clock_written card e old l = stays_written card (bit 0) (bit 2) clock_bits e old 2 l refl refl refl

-- ---- "bit 1 equals bit 0"

-- bit 1 is not stored
clock_unstored : (r : Registers) → Clean r → bit_of r.control.clock 1 ≡ false
unfolding bit_of
clock_unstored r h = within_none r.control.clock clock_bits 1 h.clock refl

-- "02Ch: ... bit 1 equals bit 0"
pub clock_stable : (f : Facts) (r : Registers) → Clean r → bit_of (shown_of (Takes Clock) f r) 1 ≡ bit_of (shown_of (Takes Clock) f r) 0
unfolding shown_of
clock_stable f r h =
    let clock = r.control.clock in
    let d = clock % 2 in
    let half : 2 * d / 2 ≡ d = omega arith in
    let even : 2 * d % 2 ≡ 0 = omega arith in
    let same : d % 2 ≡ d = omega arith in
    let high : bit_of (2 * d) 1 ≡ bit_of clock 0 = bit_suc (2 * d) 0 ∙ rw half (bit_zero d ∙ rw same (sym (bit_zero clock))) in
    let low : bit_of (2 * d) 0 ≡ false = bit_zero (2 * d) ∙ rw even in
    bit_or_lem clock (2 * d) 1 ∙ rw (clock_unstored r h, high) (sym (or-false (bit_of clock 0)) ∙ rw (← low) (sym (bit_or_lem clock (2 * d) 0)))

-- ---- Transfer Mode

bit_mode : (n k : ℕ) → bit_of (n % 65536) k ≡ (bit_of n k && ltb k 16)
bit_mode n k = bit_mod n 16 k

-- "if DAT is inhibited the mode half keeps its old value"
pub mode_kept_lem : (e : Edit) (f : Facts) (r : Registers) → in_use f.dat ≡ true → mode_of (take_of (Takes Order) e f r) ≡ mode_of r
unfolding take_of take_from
mode_kept_lem e f r h = rw h (same_bits _ _ (λ k.
    simp (bit_mode, bit_put, bit_and_lem, bit_without, bit_ones 16 k)
    (go (bit_of r.setup.order k) (bit_of e.lanes k) (bit_of e.bits k) (bit_of order_bits k) (ltb k 16))))
  where
    go : (o l p m t : Bool) → ((o && not (l && not t) || (p && not t) && m) && t) ≡ (o && t)
    go o l p m true = simp (and-true, and-false, or-false)
    go o l p m false = simp and-false
