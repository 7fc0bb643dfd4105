-- What the interrupts never store, at start and after every step (`Kept`); so what 030h bits 8 and 15 read, and when the line holds. Assumes nothing.
use Prim.Native.Nat.{ℕ, ◌+◌, ◌/◌, ◌^◌, ◌<◌}
use native.Mathlib.Omega.{arith}
use mathlib.Core.Path.{◌≡◌, refl, sym, ◌∙◌, ap}
use mathlib.Core.Logic.Iff
use mathlib.Core.Logic.{◌↔◌, ◌⊎◌, inl, inr}
use mathlib.Core.Bool.{Bool, true, false, not, ◌&&◌, ◌||◌, and-true, and-false, and_assoc, and-not_self, and-or_distrib_right, or-true, or-false, false≢true}
use lib.Bits.{bit_and, bit_or}
use lib.Dec.{ltb}
use borrow.Author.Tests.{ltb-true, lt-ltb}
use Rattle.registers.specs.Bits.{bit_of, field, bit, without, put}
use Rattle.registers.specs.Interrupt.{event_bit, event_set, raised, acknowledged, carried, enabling, signalling, forcible, forced, card_bit, error_bit, shown_status, counted, line_of}
use Rattle.registers.specs.Word.{stored}
use Rattle.registers.specs.Block.{power_on}
use Rattle.registers.specs.declared.place.Edit.{Edit}
use Rattle.registers.specs.declared.interrupt.Event.{Event}
use Rattle.registers.specs.declared.interrupt.Interrupts.{Interrupts}
use Rattle.registers.proofs.Tests.{eq_test, both, fails, nor, by_test, law}
use Rattle.registers.proofs.Sets.{bit_is, bit_and_lem, bit_or_lem, bit_without, bit_none, bit_some, none_at, bit_shr}
use Rattle.registers.proofs.Standing.{some_bit, after_enable, acknowledge_keeps, counts, Signals, line_up}
use Rattle.registers.proofs.Events.{event_one, raisable, event_raisable}

-- ---- sets within sets

-- every bit that stands in the one stands in the other
abbrev pub Within : ℕ → ℕ → Type 0
Within a b = (k : ℕ) → (bit_of a k && not (bit_of b k)) ≡ false

-- 0 holds none
pub zero_within : (b : ℕ) → Within 0 b
zero_within b k = rw (bit_none k)

-- by computing, where both are numerals
pub none_within : (a b : ℕ) → without a b ≡ 0 → Within a b
none_within a b h k = sym (bit_without a b k) ∙ none_at _ k h

-- what stands not in the one stands not in the other
pub within_none : (a b k : ℕ) → Within a b → bit_of b k ≡ false → bit_of a k ≡ false
within_none a b k h n = sym (and-true (bit_of a k)) ∙ ap (λ (x : Bool). bit_of a k && not x) (sym n) ∙ h k

-- the bits of two sets
pub or_within : (a b c : ℕ) → Within a c → Within b c → Within (bit_or a b) c
or_within a b c h g k = rw (bit_or_lem, and-or_distrib_right) (nor _ _ (h k) (g k))

-- the bits that two sets share
pub and_within : (a b : ℕ) → Within (bit_and a b) b
and_within a b k = simp (bit_and_lem, and_assoc, and-not_self, and-false)

less_law : (x y z : Bool) → (x && not z) ≡ false → ((x && y) && not z) ≡ false
less_law = law 3 _ _ _ refl

-- a set less some bits
pub less_within : (a b c : ℕ) → Within a c → Within (without a b) c
less_within a b c h k = rw bit_without (less_law (bit_of a k) (not (bit_of b k)) (bit_of c k) (h k))

wider_law : (x y z : Bool) → (x && not y || y && not z) ≡ false → (x && not z) ≡ false
wider_law = law 3 _ _ _ refl

-- a wider mask, by computing
pub wider_within : (a b c : ℕ) → without b c ≡ 0 → Within a b → Within a c
wider_within a b c h g k = wider_law (bit_of a k) (bit_of b k) (bit_of c k) (nor _ _ (g k) (none_within b c h k))

-- a written word keeps to a mask that holds its old bits and the new ones
pub put_within : (old lanes bits mask : ℕ) → Within old mask → Within bits mask → Within (put old lanes bits) mask
unfolding put
put_within old lanes bits mask h g = or_within (without old lanes) bits mask (less_within old lanes mask h) g

-- and a stored word to its own
pub stored_within : (mask : ℕ) (e : Edit) (old : ℕ) → Within old mask → Within (stored mask e old) mask
stored_within mask e old h = put_within old e.lanes (bit_and e.bits mask) mask h (and_within e.bits mask)

-- ---- what is never stored

-- the status bits that are: 030h bits 7-0, 032h bits 9-0
abbrev pub plain : ℕ
plain = field 7 0 + field 25 16

-- a status bit stands only with its enable, 030h bits 8 and 15 are not stored, and the enables are "bits 8-0" and "bits 9-0"
pub record Kept (i : Interrupts) : Type 0 where
  pub enabled : Within i.status i.enabled
  pub plain : Within i.status plain
  pub chosen : Within i.enabled carried
  pub signed : Within i.signal carried

-- at power-on
pub kept_start : Kept power_on.interrupts
kept_start =
    record { enabled = zero_within 0; plain = zero_within plain; chosen = zero_within carried; signed = zero_within carried }

-- plain bits raised, where they are enabled
set_kept : (bits : ℕ) (i : Interrupts) → Within bits plain → Kept i → Kept (raised bits i)
set_kept bits i w h =
    let new = bit_and bits i.enabled in
    record {
      enabled = or_within i.status new i.enabled h.enabled (and_within bits i.enabled);
      plain = or_within i.status new plain h.plain (λ k. rw bit_and_lem (less_law (bit_of bits k) (bit_of i.enabled k) (bit_of plain k) (w k)));
      chosen = h.chosen;
      signed = h.signed;
    }

-- the events' bits are plain
event_plain : (e : Event) → Within (event_set e) plain
unfolding without
event_plain e =
    wider_within (event_set e) raisable plain refl (λ k.
    rw (event_one e k) ((fails _ (both _ _ (eq_test k (event_bit e)) Iff.rfl)).1 (λ (s, n). false≢true (rw (s, event_raisable e) at n))))

-- any event
pub kept_raise : (e : Event) (i : Interrupts) → Kept i → Kept (raised (event_set e) i)
kept_raise e i h = set_kept (event_set e) i (event_plain e) h

-- "Writing 1 clears, 0 keeps."
pub kept_acknowledge : (bits : ℕ) (i : Interrupts) → Kept i → Kept (acknowledged bits i)
kept_acknowledge bits i h =
    record {
      enabled = less_within i.status bits i.enabled h.enabled;
      plain = less_within i.status bits plain h.plain;
      chosen = h.chosen;
      signed = h.signed;
    }

-- "clearing an enable clears the bit"
pub kept_enable : (e : Edit) (i : Interrupts) → Kept i → Kept (enabling e i)
kept_enable e i h =
    record {
      enabled = λ k. rw (after_enable e i k) (left (bit_of i.status k) (bit_of i.enabled k) (bit_of (enabling e i).enabled k) (h.enabled k));
      plain = less_within i.status (without i.enabled (enabling e i).enabled) plain h.plain;
      chosen = stored_within carried e i.enabled h.chosen;
      signed = h.signed;
    }
  where
    left : (s b n : Bool) → (s && not b) ≡ false → ((s && not (b && not n)) && not n) ≡ false
    left = law 3 _ _ _ refl

-- the signal enables
pub kept_signal : (e : Edit) (i : Interrupts) → Kept i → Kept (signalling e i)
kept_signal e i h = record { enabled = h.enabled; plain = h.plain; chosen = h.chosen; signed = stored_within carried e i.signal h.signed }

-- "052h ... its bits 9-0 set the error status bits that are enabled"
pub kept_force : (e : Edit) (i : Interrupts) → Kept i → Kept (forced e i)
unfolding without
kept_force e i h =
    let bits = bit_and e.bits forcible in
    set_kept bits i (wider_within bits forcible plain refl (and_within e.bits forcible)) h

-- ---- 030h bits 8 and 15

bit_card : (level : Bool) (i : Interrupts) (k : ℕ) → bit_of (card_bit level i) k ≡ (level && (bit_of i.enabled k && bit_of (bit 8) k))
bit_card true i k = bit_and_lem i.enabled (bit 8) k
bit_card false i k = bit_none k

bit_error : (i : Interrupts) (k : ℕ) → bit_of (error_bit i) k ≡ (ltb (field 15 0) i.status && bit_of (bit 15) k)
bit_error i k =
    let t = ltb (field 15 0) i.status in
    by_test (λ (x : ℕ). bit_of x k ≡ (t && bit_of (bit 15) k)) t (λ e. rw e) (λ e. rw e (bit_none k))

shown_bit : (level : Bool) (i : Interrupts) (k : ℕ)
    → bit_of (shown_status level i) k
    ≡ ((bit_of i.status k || level && (bit_of i.enabled k && bit_of (bit 8) k)) || ltb (field 15 0) i.status && bit_of (bit 15) k)
unfolding shown_status
shown_bit level i k = rw (bit_or_lem, bit_or_lem, bit_card level i k, bit_error i k)

-- "Card Interrupt (030h bit 8) is the card's level while enabled"
pub shown_card : (level : Bool) (i : Interrupts) → Kept i → bit_of (shown_status level i) 8 ≡ (level && bit_of i.enabled 8)
shown_card level i h =
    simp (shown_bit level i 8, within_none i.status plain 8 h.plain (bit_is plain 8), bit_is (bit 8) 8, bit_is (bit 15) 8, and-true, and-false, or-false)

-- "bit 15 is 1 while any error bit stands": while the status reaches above 030h
pub shown_error : (level : Bool) (i : Interrupts) → Kept i → bit_of (shown_status level i) 15 ≡ ltb (field 15 0) i.status
shown_error level i h =
    simp (shown_bit level i 15, within_none i.status plain 15 h.plain (bit_is plain 15), bit_is (bit 8) 15, bit_is (bit 15) 15, and-true, and-false)

-- a number reaches above its low 16 bits exactly when a bit above them stands
reaches : (n : ℕ) → (ltb (field 15 0) n ≡ true) ↔ ((k : ℕ) × (bit_of n (16 + k) ≡ true))
reaches n =
    (λ t. up (some_bit (n / 2 ^ 16)) (ltb-true (field 15 0) n t), λ (k, s). lt-ltb _ n (let some = bit_some (n / 2 ^ 16) k (bit_shr n 16 k ∙ s) in omega arith))
  where
    up : (n / 2 ^ 16 ≡ 0) ⊎ ((k : ℕ) × (bit_of (n / 2 ^ 16) k ≡ true)) → field 15 0 < n → (k : ℕ) × (bit_of n (16 + k) ≡ true)
    up (inl z) big = absurd (omega arith)
    up (inr (k, b)) big = (k, sym (bit_shr n 16 k) ∙ b)

-- "bit 15 is 1 while any error bit stands": exactly when one of 032h does
pub error_exactly : (level : Bool) (i : Interrupts) → Kept i
    → (bit_of (shown_status level i) 15 ≡ true) ↔ ((k : ℕ) × (bit_of i.status (16 + k) ≡ true))
error_exactly level i h = rw (shown_error level i h) (reaches i.status)

-- "and isn't cleared by writing"
pub card_held : (bits : ℕ) (level : Bool) (i : Interrupts) → Kept i
    → bit_of (shown_status level (acknowledged bits i)) 8 ≡ bit_of (shown_status level i) 8
card_held bits level i h = shown_card level (acknowledged bits i) (kept_acknowledge bits i h) ∙ sym (shown_card level i h)

-- ---- an acknowledgement and the line

-- the line does not look at bit 15
not_error : (k : ℕ) → counts k ≡ true → bit_of (bit 15) k ≡ false
not_error k c = rw c at (sym (bit_and_lem counted (bit 15) k) ∙ none_at (bit_and counted (bit 15)) k refl)

-- a bit that counts is a stored one or the card's
counted_bit : (level : Bool) (i : Interrupts) (k : ℕ) → counts k ≡ true
    → bit_of (shown_status level i) k ≡ (bit_of i.status k || level && (bit_of i.enabled k && bit_of (bit 8) k))
counted_bit level i k c = simp (shown_bit level i k, not_error k c, and-false, or-false)

-- "Dropping the line at any acknowledgement" is wrong: it stays up while a bit that is not acknowledged signals
pub acknowledge_holds : (bits : ℕ) (level : Bool) (i : Interrupts) (k : ℕ) → bit_of bits k ≡ false → Signals level i k
    → line_of level (acknowledged bits i) ≡ true
acknowledge_holds bits level i k h (c, s, e) =
    line_up level (acknowledged bits i) k
    (c, counted_bit level (acknowledged bits i) k c ∙ rw (acknowledge_keeps bits i k h) (sym (counted_bit level i k c) ∙ s), e)

-- and it stays up, whatever is acknowledged, while the card's level is up, enabled and signalled
pub level_holds : (bits : ℕ) (i : Interrupts) → bit_of i.enabled 8 ≡ true → bit_of i.signal 8 ≡ true → line_of true (acknowledged bits i) ≡ true
level_holds bits i on e =
    let c = bit_is counted 8 in
    line_up true (acknowledged bits i) 8
    (c, counted_bit true (acknowledged bits i) 8 c ∙ rw (on, bit_is (bit 8) 8) (or-true (bit_of (acknowledged bits i).status 8)), e)
