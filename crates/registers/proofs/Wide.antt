-- An access of several bytes of a word is its byte accesses, the lowest first: proved once over the width. Assumes nothing.
use Prim.Native.Nat.{ℕ, zero, suc, ◌+◌, ◌-◌, ◌*◌, ◌/◌, ◌%◌, ◌^◌, ◌≤◌, ◌<◌}
use native.Mathlib.Nat.{add-mul, mul_assoc, add-zero, mod-one, mod-lt, mod-eq_of_lt, lt_of_lt_of_le}
use native.Mathlib.Omega.{arith}
use mathlib.Core.Path.{◌≡◌, refl, sym, ◌∙◌, ap, ap₂}
use mathlib.Core.Logic.{◌⊎◌, inl, inr}
use mathlib.Core.Bool.{false}
use lib.Bits.{bit_and, bit_or, and_comm, and_shifted, and_block, and_mask, or_shifted_r}
use lib.Dec.{lit<}
use lib.Pow.{mod-pow-add, shr-shr, shr_lt, pow_pos, pow_mono, pow-add, shl_lt, split, ones_lt, ones_split}
use Rattle.registers.specs.Bits.{bit_of, field, bit, without}
use Rattle.registers.specs.Place.{ones_of, cut_of, lanes_of, placed_of, edit_of}
use Rattle.registers.specs.Access.{take_of}
use Rattle.registers.specs.Bytes.{read_bytes, take_bytes}
use Rattle.registers.specs.declared.place.Word.{Word}
use Rattle.registers.specs.declared.place.Edit.{Edit}
use Rattle.registers.specs.declared.word.Facts.{Facts}
use Rattle.registers.specs.declared.block.Registers.{Registers}
use Rattle.registers.proofs.Tests.{nor}
use Rattle.registers.proofs.Sets.{bit_and_lem, bit_high, none_at}
use Rattle.registers.proofs.Parted.{Apart, Free, join, Rising, take_join}
use Rattle.registers.proofs.Derived.{none_within}

-- ---- a write cut in two at a byte

-- where byte `lane + m` begins
spanned : (lane m : ℕ) → 2 ^ (8 * (lane + m)) ≡ 2 ^ (8 * m) * 2 ^ (8 * lane)
spanned lane m =
    let e : 8 * (lane + m) ≡ 8 * m + 8 * lane = omega arith in
    ap (λ (n : ℕ). 2 ^ n) e ∙ pow-add 2 (8 * m) (8 * lane)

-- m bytes from a lane on end at byte s
pub below : (lane m s b : ℕ) → lane + m ≤ s → b < 2 ^ (8 * m) → b * 2 ^ (8 * lane) < 2 ^ (8 * s)
below lane m s b top h = lt_of_lt_of_le (shl_lt (8 * m) (8 * lane) h) (pow_mono (omega arith))

-- a number above m bytes, moved to a lane, is both parts, each moved to its own
parts : (lane m a b : ℕ) → b < 2 ^ (8 * m)
    → (a * 2 ^ (8 * m) + b) * 2 ^ (8 * lane) ≡ bit_or (b * 2 ^ (8 * lane)) (a * 2 ^ (8 * (lane + m)))
parts lane m a b h =
    add-mul (a * 2 ^ (8 * m)) b (2 ^ (8 * lane))
    ∙ ap (λ (n : ℕ). n + b * 2 ^ (8 * lane)) (mul_assoc a (2 ^ (8 * m)) (2 ^ (8 * lane)) ∙ ap (λ (n : ℕ). a * n) (sym (spanned lane m)))
    ∙ sym (or_shifted_r a (8 * (lane + m)) (b * 2 ^ (8 * lane)) (below lane m (lane + m) b (omega arith) h))

-- the write of m + n bytes is that of the lower m and that of the upper n
pub edit_split : (lane m n value : ℕ)
    → edit_of lane (m + n) value ≡ join (edit_of lane m (value % 2 ^ (8 * m))) (edit_of (lane + m) n (value / 2 ^ (8 * m)))
unfolding lanes_of placed_of ones_of
edit_split lane m n value =
    let e : 8 * (m + n) ≡ 8 * n + 8 * m = omega arith in
    λ j. record {
      lanes =
          (ap (λ (k : ℕ). (2 ^ k - 1) * 2 ^ (8 * lane)) e ∙ ap (λ (k : ℕ). k * 2 ^ (8 * lane)) (ones_split (8 * n) (8 * m))
          ∙ parts lane m (2 ^ (8 * n) - 1) (2 ^ (8 * m) - 1) (ones_lt (8 * m))) j;
      bits =
          (ap (λ (k : ℕ). k * 2 ^ (8 * lane)) (sym (split value (8 * m)))
          ∙ parts lane m (value / 2 ^ (8 * m)) (value % 2 ^ (8 * m)) (mod-lt value (pow_pos (8 * m)))) j;
    }

-- ---- the two parts meet nowhere

-- no bit is set outside the written bytes
bits_within : (lane m value : ℕ) → value < 2 ^ (8 * m) → without (placed_of lane value) (lanes_of lane m) ≡ 0
unfolding without placed_of lanes_of ones_of
bits_within lane m value h =
    let k = 8 * lane in
    let e : bit_and (value * 2 ^ k) ((2 ^ (8 * m) - 1) * 2 ^ k) ≡ value * 2 ^ k =
    ap₂ bit_and (sym (add-zero (value * 2 ^ k))) (sym (add-zero ((2 ^ (8 * m) - 1) * 2 ^ k)))
    ∙ and_block k value (2 ^ (8 * m) - 1) 0 0 (pow_pos k) (pow_pos k)
    ∙ add-zero (bit_and value (2 ^ (8 * m) - 1) * 2 ^ k)
    ∙ ap (λ (n : ℕ). n * 2 ^ k) (and_mask value (8 * m) ∙ mod-eq_of_lt h)
    in
    omega arith

-- the bytes of the parts are different ones
lanes_apart : (lane m n : ℕ) → bit_and (lanes_of lane m) (lanes_of (lane + m) n) ≡ 0
unfolding lanes_of ones_of
lanes_apart lane m n =
    and_comm ((2 ^ (8 * m) - 1) * 2 ^ (8 * lane)) ((2 ^ (8 * n) - 1) * 2 ^ (8 * (lane + m)))
    ∙ and_shifted (2 ^ (8 * n) - 1) (8 * (lane + m)) _ (below lane m (lane + m) (2 ^ (8 * m) - 1) (omega arith) (ones_lt (8 * m)))

-- a write that ends below 02Fh sets none of its bits
pub quiet : (lane n value k : ℕ) → value < 2 ^ (8 * n) → lane + n ≤ 3 → 24 ≤ k → bit_of (placed_of lane value) k ≡ false
unfolding placed_of
quiet lane n value k small top high = bit_high (value * 2 ^ (8 * lane)) k (lt_of_lt_of_le (below lane n 3 value top small) (pow_mono high))

apart_at : (x y : ℕ) → bit_and x y ≡ 0 → Apart x y
apart_at x y h k = sym (bit_and_lem x y k) ∙ none_at _ k h

module _ (lane m n a b : ℕ) (ha : a < 2 ^ (8 * m)) (hb : b < 2 ^ (8 * n)) where
  -- a number of few bytes is below the upper part
  high_free : (k c : ℕ) → k ≤ lane + m → c < 2 ^ (8 * k) → Apart (placed_of (lane + m) b) c
  unfolding placed_of
  high_free k c h hc = apart_at (b * 2 ^ (8 * (lane + m))) c (and_shifted b (8 * (lane + m)) c (lt_of_lt_of_le hc (pow_mono (omega arith))))

  -- one without its lowest byte is above a lower part of one byte
  low_free : (c : ℕ) → lane + m ≤ 1 → Apart (placed_of lane a) (c * 2 ^ 8)
  unfolding placed_of
  low_free c h = apart_at (a * 2 ^ (8 * lane)) (c * 2 ^ 8) (and_comm (a * 2 ^ (8 * lane)) (c * 2 ^ 8) ∙ and_shifted c 8 _ (below lane m 1 a h ha))

  edits_rising : 0 < m → lane + m ≤ 3 → Rising (edit_of lane m a) (edit_of (lane + m) n b)
  edits_rising pos top =
      record {
        parted = λ k.
            nor _ _ (nor _ _ (apart_at (lanes_of lane m) (lanes_of (lane + m) n) (lanes_apart lane m n) k)
            (none_within (placed_of lane a) (lanes_of lane m) (bits_within lane m a ha) k))
            (none_within (placed_of (lane + m) b) (lanes_of (lane + m) n) (bits_within (lane + m) n b hb) k);
        quiet = λ k. quiet lane m a k ha top;
        clock = (high_free 1 (bit 0) (omega arith) (lit< tt), high_free 1 (bit 2) (omega arith) (lit< tt));
        power = side (lane + m) refl;
      }
    where
      -- 029h lies in one of the parts
      side : (s : ℕ) → s ≡ lane + m → Free (field 11 9) (bit 8) (placed_of lane a) ⊎ Free (field 11 9) (bit 8) (placed_of (lane + m) b)
      side zero e = absurd (omega arith)
      side (suc zero) e = inl (low_free 14 (omega arith), low_free 1 (omega arith))
      side (suc (suc s)) e = inr (high_free 2 (field 11 9) (omega arith) (lit< tt), high_free 2 (bit 8) (omega arith) (lit< tt))

-- ---- over the width

-- a value that fits has, without its lowest byte, one byte less
narrower : (n value : ℕ) → value < 2 ^ (8 * suc n) → value / 256 < 2 ^ (8 * n)
narrower n value h = let e : 8 * suc n ≡ 8 * n + 8 = omega arith in shr_lt (8 * n) 8 (rw e at h)

-- "Bytes of one access take effect in rising offset": a write to a word is the writes of its bytes, the lowest first
pub wide_take : (n : ℕ) (w : Word) (lane value : ℕ) (f : Facts) (r : Registers) → lane + suc n ≤ 4 → value < 2 ^ (8 * suc n)
    → take_of w (edit_of lane (suc n) value) f r ≡ take_bytes (suc n) w lane value f r
unfolding take_bytes
wide_take zero w lane value f r h small = ap (λ (v : ℕ). take_of w (edit_of lane 1 v) f r) (sym (mod-eq_of_lt small))
wide_take (suc n) w lane value f r h small =
    let low = edit_of lane 1 (value % 256) in
    let high = edit_of (lane + 1) (suc n) (value / 256) in
    let e : suc (suc n) ≡ 1 + suc n = omega arith in
    let tall : value / 256 < 2 ^ (8 * suc n) = narrower (suc n) value small in
    let up = edits_rising lane 1 (suc n) (value % 256) (value / 256) (mod-lt value (lit< tt)) tall (omega arith) (omega arith) in
    ap (λ (k : ℕ). take_of w (edit_of lane k value) f r) e
    ∙ ap (λ (x : Edit). take_of w x f r) (edit_split lane 1 (suc n) value)
    ∙ take_join w low high up f r
    ∙ wide_take n w (lane + 1) (value / 256) f (take_of w low f r) (omega arith) tall

-- "Little-endian": a read of a word is the reads of its bytes, the lowest first
pub wide_read : (n word lane : ℕ) → cut_of word lane n ≡ read_bytes word lane n
unfolding read_bytes cut_of
wide_read zero word lane = mod-one (word / 2 ^ (8 * lane))
wide_read (suc n) word lane =
    let x = word / 2 ^ (8 * lane) in
    let e : 8 * suc n ≡ 8 * n + 8 = omega arith in
    let d : 8 * (lane + 1) ≡ 8 * lane + 8 = omega arith in
    let next : word / 2 ^ (8 * (lane + 1)) ≡ x / 256 = rw d (sym (shr-shr word (8 * lane) 8)) in
    rw (← wide_read n word (lane + 1), next, e) (omega (arith, mod-pow-add x (8 * n) 8))
