-- A whole access, as a guest makes it, is its byte accesses at rising offsets, also while Command Inhibit (DAT) refuses some. Assumes nothing.
use Prim.Native.Nat.{ℕ, zero, suc, ◌+◌, ◌-◌, ◌*◌, ◌/◌, ◌%◌, ◌^◌, ◌≤◌, ◌<◌}
use native.Mathlib.Nat.{sub-zero, mod-one, mod-lt, mod-eq_of_lt}
use native.Mathlib.Omega.{arith}
use mathlib.Core.Path.{◌≡◌, refl, sym, ◌∙◌, ap}
use mathlib.Core.Logic.{inl, ⊎_elim}
use mathlib.Core.Bool.{Bool, true, false, cond, ◌&&◌}
use lib.Bits.{bit_and, and_mask, and_zero_r, or_zero_r}
use lib.Dec.{eqb, lit<}
use lib.Pow.{ones_lt}
use borrow.Author.Tests.{eqb-true, eqb-false}
use Rattle.std.specs.Prelude.{Ok}
use Rattle.registers.specs.Bits.{field, without, put}
use Rattle.registers.specs.Place.{words, find, word_at, limit, ones_of, lanes_of, placed_of, edit_of, guarded}
use Rattle.registers.specs.Word.{order_bits, in_use, inhibits}
use Rattle.registers.specs.Access.{shown_of, take_from, take_of, read_of, write_of}
use Rattle.registers.specs.Bytes.{read_bytes, take_bytes, write_bytes}
use Rattle.registers.specs.declared.place.Taker.TheVariants.{Order}
use Rattle.registers.specs.declared.place.Teller.TheVariants.{Nothing}
use Rattle.registers.specs.declared.place.Word.{Word}
use Rattle.registers.specs.declared.place.Word.TheVariants.{Takes, Tells}
use Rattle.registers.specs.declared.word.Facts.{Facts}
use Rattle.registers.specs.declared.block.Registers.{Registers}
use Rattle.registers.proofs.Lanes.{spans}
use Rattle.registers.proofs.Exactly.{Named, Aimed, guarded_exactly, place_here, write_block}
use Rattle.registers.proofs.Wide.{below, wide_take, wide_read}

-- ---- 00Ch-00Dh while DAT is inhibited

-- of what lies in the mode half nothing is written
mode_none : (x : ℕ) → x < 2 ^ 16 → without x (field 15 0) ≡ 0
unfolding without
mode_none x h = let e : bit_and x (field 15 0) ≡ x = and_mask x 16 ∙ mod-eq_of_lt h in omega arith

-- a write of no byte
put_none : (old : ℕ) → put old 0 (bit_and 0 order_bits) ≡ old
unfolding put without
put_none old = or_zero_r (old - bit_and old 0) ∙ rw (and_zero_r, sub-zero)

-- "if DAT is inhibited the mode half keeps its old value": there the write and its refusal are the same
mode_held : (lane n value : ℕ) (f : Facts) (r : Registers) → in_use f.dat ≡ true → lane + n ≤ 2 → value < 2 ^ (8 * n)
    → take_of (Takes Order) (edit_of lane n value) f r ≡ r
unfolding take_of take_from lanes_of placed_of ones_of
mode_held lane n value f r held h small =
    rw (
      held,
      mode_none (ones_of n * 2 ^ (8 * lane)) (below lane n 2 (ones_of n) h (ones_lt (8 * n))),
      mode_none (value * 2 ^ (8 * lane)) (below lane n 2 value h small),
      put_none,
    )

-- ---- a refused write is as one to a word that ignores writes

-- n bytes of the word at `base`, the first of them its byte `lane`, at `offset`
record Spot (base offset lane n : ℕ) : Type 0 where
  even : base % 4 ≡ 0
  at : offset ≡ base + lane
  fits : lane + n ≤ 4
  top : offset + n ≤ limit

-- the word as a write finds it: while DAT is in use, 004h-007h is one that ignores writes
seen : ℕ → Facts → Word
seen base f = cond (in_use f.dat && eqb base 0x004) (Tells Nothing) (word_at base)

-- all of 004h-007h is guarded
block_guarded : (base offset lane n : ℕ) → Spot base offset lane n → base ≡ 0x004 → guarded offset n ≡ true
block_guarded base offset lane n s e = (guarded_exactly offset n).1 (inl (omega arith, omega arith))

-- elsewhere only what lies in 00Ch-00Dh is
other_guarded : (base offset lane n : ℕ) → Spot base offset lane (suc n) → (base ≡ 0x004 → ⊥) → guarded offset (suc n) ≡ true
    → (base ≡ 0x00C) × (lane + suc n ≤ 2)
other_guarded base offset lane n s other g =
    ⊎_elim (λ h. absurd (other (omega arith))) (λ h. (omega arith, omega arith)) ((guarded_exactly offset (suc n)).0 g)

-- 00Ch, Transfer Mode and Command
pub order_at : word_at 0x00C ≡ Takes Order
unfolding word_at words find
order_at = refl

-- so, refused or not, the block is as after a write to the word as found
seen_write : (base offset lane n value : ℕ) (f : Facts) (r : Registers) → Spot base offset lane (suc n) → value < 2 ^ (8 * suc n)
    → cond (inhibits f.dat offset (suc n)) r (take_of (word_at base) (edit_of lane (suc n) value) f r)
    ≡ take_of (seen base f) (edit_of lane (suc n) value) f r
unfolding seen take_of
seen_write base offset lane n value f r s small = go (in_use f.dat) (eqb base 0x004) (guarded offset (suc n)) refl refl refl
  where
    go : (t b g : Bool) → in_use f.dat ≡ t → eqb base 0x004 ≡ b → guarded offset (suc n) ≡ g
        → cond (t && g) r (take_of (word_at base) (edit_of lane (suc n) value) f r)
        ≡ take_of (cond (t && b) (Tells Nothing) (word_at base)) (edit_of lane (suc n) value) f r
    go false b g et eb eg = refl
    go true true g et eb eg = rw (sym eg ∙ block_guarded base offset lane (suc n) s (eqb-true base 0x004 eb))
    go true false false et eb eg = refl
    go true false true et eb eg =
        let (c, h) = other_guarded base offset lane n s (eqb-false base 0x004 eb) eg in
        rw (ap word_at c ∙ order_at) (sym (mode_held lane (suc n) value f r et h small))

-- ---- the byte writes of an access

-- of one byte
byte_write : (base offset lane value : ℕ) (f : Facts) (r : Registers) → Spot base offset lane 1
    → (write_of r f offset 1 (value % 256)).registers ≡ take_of (seen base f) (edit_of lane 1 (value % 256)) f r
byte_write base offset lane value f r s =
    let small : value % 256 < 256 = mod-lt value (lit< tt) in
    let word : offset / 4 * 4 ≡ base = omega arith in
    let byte : offset % 4 ≡ lane = omega arith in
    rw (word, byte) at (write_block r f offset 1 (value % 256) ((inl refl, (mod-one offset, s.top)), small))
    ∙ seen_write base offset lane 0 (value % 256) f r s small

-- of all, at rising offsets
bytes_write : (n base offset lane value : ℕ) (f : Facts) (r : Registers) → Spot base offset lane n
    → write_bytes n offset value f r ≡ take_bytes n (seen base f) lane value f r
unfolding write_bytes take_bytes
bytes_write zero base offset lane value f r s = refl
bytes_write (suc n) base offset lane value f r s =
    ap (write_bytes n (offset + 1) (value / 256) f) (byte_write base offset lane value f r (one s))
    ∙ bytes_write n base (offset + 1) (lane + 1) (value / 256) f (take_of (seen base f) (edit_of lane 1 (value % 256)) f r) (rest s)
  where
    one : Spot base offset lane (suc n) → Spot base offset lane 1
    one s = record { even = s.even; at = s.at; fits = omega arith; top = omega arith }

    rest : Spot base offset lane (suc n) → Spot base (offset + 1) (lane + 1) n
    rest s = record { even = s.even; at = omega arith; fits = omega arith; top = omega arith }

-- ---- the theorems

-- "Bytes of one access take effect in rising offset": a write that names a place leaves the block as its byte writes do, one after the other
pub wide_write : (offset n value : ℕ) (f : Facts) (r : Registers) → Aimed offset n value
    → (write_of r f offset n value).registers ≡ write_bytes n offset value f r
wide_write offset zero value f r ((width, (even, top)), small) = let s = spans offset 0 width even in absurd (omega arith)
wide_write offset (suc n) value f r ((width, (even, top)), small) =
    let base = offset / 4 * 4 in
    let lane = offset % 4 in
    let fits = (spans offset (suc n) width even).1 in
    let s : Spot base offset lane (suc n) = record { even = omega arith; at = omega arith; fits = fits; top = top } in
    write_block r f offset (suc n) value ((width, (even, top)), small)
    ∙ seen_write base offset lane n value f r s small
    ∙ wide_take n (seen base f) lane value f r fits small
    ∙ sym (bytes_write (suc n) base offset lane value f r s)

-- "Little-endian": a read that names a place gives the bytes of its byte reads, the lowest first
pub wide_reads : (offset n : ℕ) (f : Facts) (r : Registers) → Named offset n
    → read_of r f offset n ≡ Ok (read_bytes (shown_of (word_at (offset / 4 * 4)) f r) (offset % 4) n)
wide_reads offset n f r h = rw (place_here offset n h, wide_read n (shown_of (word_at (offset / 4 * 4)) f r) (offset % 4))
