-- Two writes to different bytes of one word, one after the other, are one write of both, whatever the word. Assumes nothing.
use Prim.Native.Nat.{ℕ, ◌≤◌}
use native.Mathlib.Omega.{arith}
use mathlib.Core.Path.{◌≡◌, refl}
use mathlib.Core.Logic.{◌⊎◌, inl, inr}
use mathlib.Core.Bool.{Bool, true, false, not, ◌&&◌, ◌||◌, and-true, and-false, and-or_distrib_right, or_assoc}
use lib.Bits.{bit_and, bit_or, or_comm}
use lib.Dec.{eqb}
use Rattle.registers.specs.Bits.{bit_of, field, bit, without, put}
use Rattle.registers.specs.Interrupt.{enabling, carried, forcible}
use Rattle.registers.specs.Word.{stored, whole_bits, block_bits, order_bits, host_bits, clock_bits, low_bits, order_after, stays, in_use}
use Rattle.registers.specs.Reset.{reset_with}
use Rattle.registers.specs.Access.{take_from, take_of}
use Rattle.registers.specs.declared.place.Taker.{Taker}
use Rattle.registers.specs.declared.place.Taker.TheVariants.{System, Block, Argument, Order, Host, Clock, Status, Enabled, Signal, Force, Low, High}
use Rattle.registers.specs.declared.place.Word.{Word}
use Rattle.registers.specs.declared.place.Word.TheVariants.{Takes, Tells}
use Rattle.registers.specs.declared.place.Edit.{Edit}
use Rattle.registers.specs.declared.word.Facts.{Facts}
use Rattle.registers.specs.declared.interrupt.Interrupts.{Interrupts}
use Rattle.registers.specs.declared.block.Registers.{Registers}
use Rattle.registers.proofs.Tests.{nor, by_test, law}
use Rattle.registers.proofs.Sets.{bitwise, bit_or_lem, bit_without, same_bits}

-- what two writes say of one bit, l and m that it is in a byte of theirs, p and q that they set it: both write it, or one sets it outside its bytes
abbrev pub clash : Bool → Bool → Bool → Bool → Bool
clash l m p q = l && m || p && not l || q && not m

-- no byte is written twice, and no bit is set outside the bytes of its write
abbrev pub Parted : Edit → Edit → Type 0
Parted e d = (k : ℕ) → clash (bit_of e.lanes k) (bit_of d.lanes k) (bit_of e.bits k) (bit_of d.bits k) ≡ false

-- the one write
abbrev pub join : Edit → Edit → Edit
join e d = record { lanes = bit_or e.lanes d.lanes; bits = bit_or e.bits d.bits }

-- ---- a word that stores some of its bits

stored_law : (o l m p q c : Bool) → clash l m p q ≡ false → (o && not (l || m) || (p || q) && c) ≡ ((o && not l || p && c) && not m || q && c)
stored_law = law 6 _ _ _ refl

-- "Reserved or read-only bits ... ignore writes"
stored_join : (c : ℕ) (e d : Edit) → Parted e d → (old : ℕ) → stored c (join e d) old ≡ stored c d (stored c e old)
stored_join c e d h old = same_bits _ _ (λ k. simp bitwise (search (stored_law, h)))

-- ---- 00Ch and 00Eh: "if DAT is inhibited the mode half keeps its old value"

mode_law : (o l m p q c t : Bool) → clash l m p q ≡ false
    → (o && not ((l || m) && not t) || ((p || q) && not t) && c) ≡ ((o && not (l && not t) || (p && not t) && c) && not (m && not t) || (q && not t) && c)
mode_law = law 7 _ _ _ refl

order_join : (inhibited : Bool) (e d : Edit) → Parted e d → (old : ℕ)
    → order_after inhibited (join e d) old ≡ order_after inhibited d (order_after inhibited e old)
order_join true e d h old = same_bits _ _ (λ k. simp bitwise (search (mode_law, h)))
order_join false e d h old = stored_join order_bits e d h old

-- ---- 029h and 02Ch: a bit that "stays 1 only with" others

-- two sets of bits that share none
abbrev pub Apart : ℕ → ℕ → Type 0
Apart x y = (k : ℕ) → (bit_of x k && bit_of y k) ≡ false

-- a write that sets neither the bit nor any that it needs
abbrev pub Free : ℕ → ℕ → ℕ → Type 0
Free needs one x = Apart x needs × Apart x one

-- "bit ... stays 1 only with" a card in and the bits that it needs; every other bit stays
pub bit_stays : (card : Bool) (needs one x k : ℕ)
    → bit_of (stays card needs one x) k ≡ (bit_of x k && (card && eqb (bit_and x needs) needs || not (bit_of one k)))
unfolding stays
bit_stays card needs one x k =
    let t = card && eqb (bit_and x needs) needs in
    by_test (λ (y : ℕ). bit_of y k ≡ (bit_of x k && (t || not (bit_of one k)))) t (λ e. simp (e, and-true)) (λ e. rw e (bit_without x one k))

-- where one write is free, the other alone decides: its test t is that of both
first_law : (o l m p q c b t u : Bool) → (clash l m p q || q && b) ≡ false
    → (o && not (l || m) || ((p || q) && c) && (t || not b)) ≡ ((o && not l || (p && c) && (t || not b)) && not m || (q && c) && (u || not b))
first_law = law 9 _ _ _ refl

second_law : (o l m p q c b t u : Bool) → (clash l m p q || p && b) ≡ false
    → (o && not (l || m) || ((p || q) && c) && (t || not b)) ≡ ((o && not l || (p && c) && (u || not b)) && not m || (q && c) && (t || not b))
second_law = law 9 _ _ _ refl

needed_law : (x y c n : Bool) → (y && n) ≡ false → (((x || y) && c) && n) ≡ ((x && c) && n)
needed_law = law 4 _ _ _ refl

needed : (x y c n : ℕ) → Apart y n → bit_and (bit_and (bit_or x y) c) n ≡ bit_and (bit_and x c) n
needed x y c n f = same_bits _ _ (λ k. simp bitwise (search (needed_law, f)))

settled_join : (card : Bool) (needs one c : ℕ) (e d : Edit) → Parted e d → Free needs one e.bits ⊎ Free needs one d.bits → (old : ℕ)
    → put old (bit_or e.lanes d.lanes) (stays card needs one (bit_and (bit_or e.bits d.bits) c))
    ≡ put (put old e.lanes (stays card needs one (bit_and e.bits c))) d.lanes (stays card needs one (bit_and d.bits c))
settled_join card needs one c e d h (inl f) old =
    let same = rw (or_comm d.bits e.bits) at (needed d.bits e.bits c needs f.0) in
    same_bits _ _ (λ k. simp (bitwise, bit_stays, same) (search (second_law, nor, h, f.1)))
settled_join card needs one c e d h (inr f) old =
    let same = needed e.bits d.bits c needs f.0 in
    same_bits _ _ (λ k. simp (bitwise, bit_stays, same) (search (first_law, nor, h, f.1)))

-- ---- 030h to 03Ah and 052h

pub acknowledge_join : (x y s : ℕ) → without s (bit_or x y) ≡ without (without s x) y
acknowledge_join x y s = same_bits _ _ (λ k. simp bitwise (go (bit_of s k) (bit_of x k) (bit_of y k)))
  where
    go : (s x y : Bool) → (s && not (x || y)) ≡ ((s && not x) && not y)
    go s true y = simp and-false
    go s false y = simp and-true

enable_law : (s n l m p q c : Bool) → clash l m p q ≡ false
    → (s && not (n && not (n && not (l || m) || (p || q) && c)))
    ≡ ((s && not (n && not (n && not l || p && c))) && not ((n && not l || p && c) && not ((n && not l || p && c) && not m || q && c)))
enable_law = law 7 _ _ _ refl

enable_join : (e d : Edit) → Parted e d → (i : Interrupts) → enabling (join e d) i ≡ enabling d (enabling e i)
enable_join e d h i =
    λ j. record {
      status = same_bits (enabling (join e d) i).status (enabling d (enabling e i)).status (λ k. simp bitwise (search (enable_law, h))) j;
      enabled = stored_join carried e d h i.enabled j;
      signal = i.signal;
    }

force_join : (x y c e s : ℕ)
    → bit_or s (bit_and (bit_and (bit_or x y) c) e) ≡ bit_or (bit_or s (bit_and (bit_and x c) e)) (bit_and (bit_and y c) e)
force_join x y c e s = same_bits _ _ (λ k. simp (bitwise, and-or_distrib_right, or_assoc))

-- ---- every word

-- two writes to a word, the second to higher bytes: so 02Fh is none of the first, 02Ch none of the second, and 029h not of both
pub record Rising (e d : Edit) : Type 0 where
  pub parted : Parted e d
  pub quiet : (k : ℕ) → 24 ≤ k → bit_of e.bits k ≡ false
  pub clock : Free (bit 0) (bit 2) d.bits
  pub power : Free (field 11 9) (bit 8) e.bits ⊎ Free (field 11 9) (bit 8) d.bits

from_join : (w : Taker) (e d : Edit) → Rising e d → (inhibited card : Bool) (r : Registers)
    → take_from w (join e d) inhibited card r ≡ take_from w d inhibited card (take_from w e inhibited card r)
unfolding take_from reset_with
from_join System e d h inhibited card r = rw (stored_join whole_bits e d h.parted r.setup.system)
from_join Block e d h inhibited card r = rw (stored_join block_bits e d h.parted r.setup.block)
from_join Argument e d h inhibited card r = rw (stored_join whole_bits e d h.parted r.setup.argument)
from_join Order e d h inhibited card r = rw (order_join inhibited e d h.parted r.setup.order)
from_join Host e d h inhibited card r = rw (settled_join card (field 11 9) (bit 8) host_bits e d h.parted h.power r.control.host)
from_join Clock e d h inhibited card r =
    let bits = e.bits in
    let more = d.bits in
    rw (
      settled_join card (bit 0) (bit 2) clock_bits e d h.parted (inr h.clock) r.control.clock,
      bit_or_lem bits more 24,
      bit_or_lem bits more 25,
      bit_or_lem bits more 26,
      h.quiet 24 (omega arith),
      h.quiet 25 (omega arith),
      h.quiet 26 (omega arith),
    )
from_join Status e d h inhibited card r = rw (acknowledge_join e.bits d.bits r.interrupts.status)
from_join Enabled e d h inhibited card r = rw (enable_join e d h.parted r.interrupts)
from_join Signal e d h inhibited card r = rw (stored_join carried e d h.parted r.interrupts.signal)
from_join Force e d h inhibited card r = rw (force_join e.bits d.bits forcible r.interrupts.enabled r.interrupts.status)
from_join Low e d h inhibited card r = rw (stored_join low_bits e d h.parted r.adma.low)
from_join High e d h inhibited card r = rw (stored_join whole_bits e d h.parted r.adma.high)

-- "Bytes of one access take effect in rising offset, as one step."
pub take_join : (w : Word) (e d : Edit) → Rising e d → (f : Facts) (r : Registers) → take_of w (join e d) f r ≡ take_of w d f (take_of w e f r)
unfolding take_of
take_join (Takes w) e d h f r = from_join w e d h (in_use f.dat) f.card r
take_join (Tells w) e d h f r = refl
