-- A stored word after a write, bit by bit and read back, once over the mask, the lane, the width and the index. Assumes nothing.
use Prim.Native.Nat.{ℕ, ◌+◌, ◌-◌, ◌*◌, ◌/◌, ◌^◌, ◌≤◌, ◌<◌}
use native.Mathlib.Nat.{mod-eq_of_lt}
use native.Mathlib.Omega.{arith}
use mathlib.Core.Path.{◌≡◌, refl, ◌∙◌, ap}
use mathlib.Core.Bool.{Bool, true, false, not, ◌&&◌, ◌||◌, and-true, and-false, or-false}
use lib.Bits.{bit_and, and_mask}
use lib.Dec.{ltb}
use borrow.Author.Tests.{ltb-true, lt-ltb}
use Rattle.registers.specs.Bits.{bit_of}
use Rattle.registers.specs.Place.{ones_of, cut_of, lanes_of, placed_of, edit_of}
use Rattle.registers.specs.Word.{stored, whole_bits}
use Rattle.registers.specs.declared.place.Edit.{Edit}
use Rattle.registers.proofs.Sets.{bit_and_lem, bit_put, bit_ones, bit_shr, bit_shl, bit_mod, same_bits}

-- of a byte that is written the bits that are stored, of another the old ones
pub after_store : (mask : ℕ) (e : Edit) (old k : ℕ)
    → bit_of (stored mask e old) k ≡ (bit_of old k && not (bit_of e.lanes k) || (bit_of e.bits k && bit_of mask k))
after_store mask e old k = rw (bit_put, bit_and_lem)

-- "Reserved or read-only bits ... ignore writes": one that does not stand never will
pub reserved_never : (mask : ℕ) (e : Edit) (old k : ℕ) → bit_of mask k ≡ false → bit_of old k ≡ false → bit_of (stored mask e old) k ≡ false
reserved_never mask e old k m o = after_store mask e old k ∙ rw (m, o, and-false)

-- a write leaves the bytes alone that it does not reach
pub store_keeps : (mask : ℕ) (e : Edit) (old k : ℕ) → bit_of e.lanes k ≡ false → bit_of e.bits k ≡ false
    → bit_of (stored mask e old) k ≡ bit_of old k
store_keeps mask e old k l b = after_store mask e old k ∙ rw (l, b, and-true, or-false)

-- ---- bits counted from the first of a place

lanes_at : (lane n k : ℕ) → bit_of (lanes_of lane n) (8 * lane + k) ≡ ltb k (8 * n)
unfolding lanes_of ones_of
lanes_at lane n k = bit_shl (2 ^ (8 * n) - 1) (8 * lane) k ∙ bit_ones (8 * n) k

placed_at : (lane value k : ℕ) → bit_of (placed_of lane value) (8 * lane + k) ≡ bit_of value k
unfolding placed_of
placed_at lane value k = bit_shl value (8 * lane) k

-- "Little-endian": bit k of what is read is that of the word, counted from its lane
pub cut_at : (word lane n k : ℕ) → bit_of (cut_of word lane n) k ≡ (bit_of word (8 * lane + k) && ltb k (8 * n))
unfolding cut_of
cut_at word lane n k = bit_mod (word / 2 ^ (8 * lane)) (8 * n) k ∙ rw (bit_shr word (8 * lane) k)

-- ---- what was written is read

-- of a value written, the bits that are stored there
pub read_back : (mask lane n value old : ℕ) → cut_of (stored mask (edit_of lane n value) old) lane n ≡ bit_and value (cut_of mask lane n)
read_back mask lane n value old =
    same_bits _ _ (λ k.
    simp (cut_at, bit_and_lem, after_store, lanes_at, placed_at)
    (go (bit_of old (8 * lane + k)) (ltb k (8 * n)) (bit_of value k) (bit_of mask (8 * lane + k))))
  where
    go : (o t v m : Bool) → ((o && not t || v && m) && t) ≡ (v && (m && t))
    go o true v m = simp (and-true, and-false)
    go o false v m = simp and-false

-- all of it where every bit is stored
pub read_back_whole : (lane n value old : ℕ) → lane + n ≤ 4 → value < 2 ^ (8 * n)
    → cut_of (stored whole_bits (edit_of lane n value) old) lane n ≡ value
read_back_whole lane n value old h small =
    read_back whole_bits lane n value old ∙ ap (bit_and value) whole ∙ and_mask value (8 * n) ∙ mod-eq_of_lt small
  where
    -- a bit of the place is one of the word
    inside : (k : ℕ) (t : Bool) → ltb k (8 * n) ≡ t → (ltb (8 * lane + k) 32 && t) ≡ t
    inside k true e = let l = ltb-true k (8 * n) e in rw (lt-ltb (8 * lane + k) 32 (omega arith))
    inside k false e = and-false (ltb (8 * lane + k) 32)

    whole : cut_of whole_bits lane n ≡ 2 ^ (8 * n) - 1
    whole = same_bits _ _ (λ k. cut_at whole_bits lane n k ∙ rw (bit_ones 32 (8 * lane + k), bit_ones (8 * n) k) (inside k (ltb k (8 * n)) refl))
