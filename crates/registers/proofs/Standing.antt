-- The interrupts bit by bit, once over the index (16 + k for bit k of 032h): what stands after each step, and when the line is up. Assumes nothing.
use Prim.Native.Nat.{ℕ, suc, ◌/◌, ◌%◌}
use native.Mathlib.Omega.{arith}
use mathlib.Core.Path.{◌≡◌, refl, sym, ◌∙◌, ap}
use mathlib.Core.Logic.Iff
use mathlib.Core.Logic.{◌↔◌, ◌⊎◌, inl, inr}
use mathlib.Core.Bool.{Bool, true, false, not, ◌&&◌, ◌||◌, and-true, and-false, or-true, or-false, and-not_self, false≢true}
use lib.Arith.{bin_ind}
use lib.Bits.{bit_and}
use lib.Dec.{eqb}
use borrow.Author.Tests.{eqb-false, ne_eqb}
use Rattle.registers.specs.Bits.{bit_of}
use Rattle.registers.specs.Interrupt.{raised, acknowledged, carried, choice, enabling, forcible, forced, shown_status, counted, line_of}
use Rattle.registers.specs.declared.interrupt.Interrupts.{Interrupts}
use Rattle.registers.specs.declared.place.Edit.{Edit}
use Rattle.registers.proofs.Sets.{bit_zero, bit_suc, bit_and_lem, bit_or_lem, bit_without, bit_put, bit_some}
use Rattle.registers.proofs.Tests.{both, fails}

-- ---- the bits after a step

-- "An event sets its status bit only if its status enable is 1"
pub after_raise : (bits : ℕ) (i : Interrupts) (k : ℕ)
    → bit_of (raised bits i).status k ≡ (bit_of i.status k || (bit_of bits k && bit_of i.enabled k))
after_raise bits i k = rw (bit_or_lem, bit_and_lem)

-- "Writing 1 clears, 0 keeps."
pub after_acknowledge : (bits : ℕ) (i : Interrupts) (k : ℕ)
    → bit_of (acknowledged bits i).status k ≡ (bit_of i.status k && not (bit_of bits k))
after_acknowledge bits i k = bit_without i.status bits k

-- "034h and 038h bits 8-0; 036h and 03Ah bits 9-0": a written byte gives its carried bits, another keeps what it had
pub after_choice : (old : ℕ) (e : Edit) (k : ℕ)
    → bit_of (choice old e) k ≡ (bit_of old k && not (bit_of e.lanes k) || (bit_of e.bits k && bit_of carried k))
after_choice old e k = rw (bit_put, bit_and_lem)

-- "clearing an enable clears the bit": status bits fall where an enable that was 1 becomes 0
pub after_enable : (e : Edit) (i : Interrupts) (k : ℕ)
    → bit_of (enabling e i).status k ≡ (bit_of i.status k && not (bit_of i.enabled k && not (bit_of (enabling e i).enabled k)))
after_enable e i k = rw (bit_without, bit_without)

-- "052h ... its bits 9-0 set the error status bits that are enabled"
pub after_force : (e : Edit) (i : Interrupts) (k : ℕ)
    → bit_of (forced e i).status k ≡ (bit_of i.status k || ((bit_of e.bits k && bit_of forcible k) && bit_of i.enabled k))
after_force e i k = rw (bit_or_lem, bit_and_lem, bit_and_lem)

-- ---- no step touches a bit that it does not name

-- a bit that no event sets
pub raise_keeps : (bits : ℕ) (i : Interrupts) (k : ℕ) → bit_of bits k ≡ false → bit_of (raised bits i).status k ≡ bit_of i.status k
raise_keeps bits i k h = after_raise bits i k ∙ rw h (or-false (bit_of i.status k))

-- "0 keeps"
pub acknowledge_keeps : (bits : ℕ) (i : Interrupts) (k : ℕ) → bit_of bits k ≡ false → bit_of (acknowledged bits i).status k ≡ bit_of i.status k
acknowledge_keeps bits i k h = after_acknowledge bits i k ∙ rw h (and-true (bit_of i.status k))

-- an enable that is written as it was clears nothing
pub enable_keeps : (e : Edit) (i : Interrupts) (k : ℕ) → bit_of (enabling e i).enabled k ≡ bit_of i.enabled k
    → bit_of (enabling e i).status k ≡ bit_of i.status k
enable_keeps e i k h = after_enable e i k ∙ rw (h, and-not_self) (and-true (bit_of i.status k))

-- ---- and what it names it does

-- "An event sets its status bit": with its enable 1
pub raise_sets : (bits : ℕ) (i : Interrupts) (k : ℕ) → bit_of bits k ≡ true → bit_of i.enabled k ≡ true → bit_of (raised bits i).status k ≡ true
raise_sets bits i k h on = after_raise bits i k ∙ rw (h, on) (or-true (bit_of i.status k))

-- "only if its status enable is 1": with its enable 0 the event leaves no trace
pub raise_lost : (bits : ℕ) (i : Interrupts) (k : ℕ) → bit_of i.enabled k ≡ false → bit_of (raised bits i).status k ≡ bit_of i.status k
raise_lost bits i k off = after_raise bits i k ∙ rw (off, and-false) (or-false (bit_of i.status k))

-- "Writing 1 clears"
pub acknowledge_clears : (bits : ℕ) (i : Interrupts) (k : ℕ) → bit_of bits k ≡ true → bit_of (acknowledged bits i).status k ≡ false
acknowledge_clears bits i k h = after_acknowledge bits i k ∙ rw h (and-false (bit_of i.status k))

-- "clearing an enable clears the bit"
pub disable_clears : (e : Edit) (i : Interrupts) (k : ℕ) → bit_of i.enabled k ≡ true → bit_of (enabling e i).enabled k ≡ false
    → bit_of (enabling e i).status k ≡ false
disable_clears e i k was now = after_enable e i k ∙ rw (was, now) (and-false (bit_of i.status k))

-- ---- when the line is up

-- a number is 0, or here is a bit that stands in it
pub some_bit : (n : ℕ) → (n ≡ 0) ⊎ ((k : ℕ) × (bit_of n k ≡ true))
some_bit = bin_ind (λ (n : ℕ). (n ≡ 0) ⊎ ((k : ℕ) × (bit_of n k ≡ true))) (inl refl) (λ n half. go n (eqb (n % 2) 1) refl half)
  where
    go : (n : ℕ) (odd : Bool) → eqb (n % 2) 1 ≡ odd → (n / 2 ≡ 0) ⊎ ((k : ℕ) × (bit_of (n / 2) k ≡ true))
        → (n ≡ 0) ⊎ ((k : ℕ) × (bit_of n k ≡ true))
    go n true e half = inr (0, bit_zero n ∙ e)
    go n false e (inl z) = let even = eqb-false (n % 2) 1 e in inl (omega arith)
    go n false e (inr (k, b)) = inr (suc k, bit_suc n k ∙ b)

-- is an index one of "030h bits 8-0 or 032h"?
abbrev pub counts : ℕ → Bool
counts k = bit_of counted k

-- "some bit of 030h bits 8-0 or 032h stands with its signal enable 1": this one does
abbrev pub Signals : Bool → Interrupts → ℕ → Type 0
Signals level i k = (counts k ≡ true) × (bit_of (shown_status level i) k ≡ true) × (bit_of i.signal k ≡ true)

-- all such bits
signalled : Bool → Interrupts → ℕ
signalled level i = bit_and (bit_and (shown_status level i) i.signal) counted

bit_signalled : (level : Bool) (i : Interrupts) (k : ℕ)
    → bit_of (signalled level i) k ≡ ((bit_of (shown_status level i) k && bit_of i.signal k) && counts k)
unfolding signalled
bit_signalled level i k = rw (bit_and_lem, bit_and_lem)

-- the line is up if one signals
pub line_up : (level : Bool) (i : Interrupts) (k : ℕ) → Signals level i k → line_of level i ≡ true
unfolding line_of signalled
line_up level i k (c, s, e) =
    let b : bit_of (signalled level i) k ≡ true = bit_signalled level i k ∙ rw (s, e, c) in
    ap not (ne_eqb (signalled level i) 0 (bit_some (signalled level i) k b))

-- and then one does
pub line_some : (level : Bool) (i : Interrupts) → line_of level i ≡ true → (k : ℕ) × Signals level i k
unfolding line_of signalled
line_some level i h = go (some_bit (signalled level i))
  where
    go : (signalled level i ≡ 0) ⊎ ((k : ℕ) × (bit_of (signalled level i) k ≡ true)) → (k : ℕ) × Signals level i k
    go (inl z) = absurd (false≢true (rw z at h))
    go (inr (k, b)) =
        let ((s, e), c) = (both _ _ (both _ _ Iff.rfl Iff.rfl) Iff.rfl).0 (sym (bit_signalled level i k) ∙ b) in
        (k, (c, s, e))

-- "The line is up exactly when some bit of 030h bits 8-0 or 032h stands with its signal enable 1."
pub line_exactly : (level : Bool) (i : Interrupts) → (line_of level i ≡ true) ↔ ((k : ℕ) × Signals level i k)
line_exactly level i = (line_some level i, λ (k, s). line_up level i k s)

-- down if none signals
pub line_down : (level : Bool) (i : Interrupts) → ((k : ℕ) → Signals level i k → ⊥) → line_of level i ≡ false
line_down level i h = (fails _ (line_exactly level i)).1 (λ (k, s). h k s)
