-- Lanes and widths: the widths there are, that an aligned access lies within one word, and that no shift of an edit loses a bit. Assumes nothing.
use Prim.Native.Nat.{ℕ, suc, ◌+◌, ◌-◌, ◌*◌, ◌/◌, ◌%◌, ◌^◌, ◌≤◌, ◌<◌}
use native.Mathlib.Omega.{arith}
use mathlib.Core.Path.{◌≡◌, sym, ◌∙◌, ap}
use mathlib.Core.Bool.{true, or_assoc}
use mathlib.Core.Logic.{◌↔◌, ◌⊎◌, inl, inr}
use lib.Bits.{bit_and, and_mask}
use lib.Dec.{leb, ltb, leb-suc-suc}
use Rattle.registers.specs.Place.{legal, limit, ones_of}
use lib.Pow.{suc_ones, shl_exact, ones_lt, ones_split, high}
use Rattle.registers.proofs.Tests.{eq_test, either}

-- what is left of 32 ones after a shift
pub ones_shr : (w : ℕ) → w ≤ 4 → 4294967295 / 2 ^ (32 - 8 * w) ≡ 2 ^ (8 * w) - 1
ones_shr w h =
    let j = 8 * w in
    let k = 32 - j in
    let e : j + k ≡ 32 = omega arith in
    ap (λ (n : ℕ). (2 ^ n - 1) / 2 ^ k) (sym e)
    ∙ ap (λ (n : ℕ). n / 2 ^ k) (ones_split j k)
    ∙ high (2 ^ j - 1) k (ones_lt k)

-- the two tests for a value that fits
pub leb_ones : (a k : ℕ) → leb a (2 ^ k - 1) ≡ ltb a (2 ^ k)
leb_ones a k = sym (leb-suc-suc a (2 ^ k - 1)) ∙ ap (leb (suc a)) (suc_ones k)

-- what so many ones keep of a number
pub and_ones : (n width : ℕ) → bit_and n (ones_of width) ≡ n % 2 ^ (8 * width)
unfolding ones_of
and_ones n width = and_mask n (8 * width)

-- the written bytes of a place stay within 32 bits
pub lanes_exact : (lane width : ℕ) → lane + width ≤ 4 → (ones_of width * 2 ^ (8 * lane)) % 4294967296 ≡ ones_of width * 2 ^ (8 * lane)
unfolding ones_of
lanes_exact lane width h = shl_exact (8 * width) (8 * lane) 32 (ones_lt (8 * width)) (omega arith)

-- and so does the value at that place
pub placed_exact : (lane width value : ℕ) → lane + width ≤ 4 → value < 2 ^ (8 * width)
    → (value * 2 ^ (8 * lane)) % 4294967296 ≡ value * 2 ^ (8 * lane)
placed_exact lane width value h small = shl_exact (8 * width) (8 * lane) 32 small (omega arith)

-- what a shift to a lane leaves as it is
pub ruleset exact = (lanes_exact, placed_exact)

-- "1, 2 or 4", as cases
abbrev pub Width : ℕ → Type 0
Width w = (w ≡ 1) ⊎ ((w ≡ 2) ⊎ (w ≡ 4))

-- a legal width is one of them
pub legal_exactly : (w : ℕ) → (legal w ≡ true) ↔ Width w
legal_exactly w = rw or_assoc (either _ _ (eq_test w 1) (either _ _ (eq_test w 2) (eq_test w 4)))

-- it is neither 0 nor beyond the limit
pub legal_bounds : (w : ℕ) → legal w ≡ true → (0 < w) × (w ≤ limit)
legal_bounds w h = go ((legal_exactly w).0 h)
  where
    go : Width w → (0 < w) × (w ≤ limit)
    go (inl e) = omega arith
    go (inr (inl e)) = omega arith
    go (inr (inr e)) = omega arith

-- an aligned access does not reach into the next word
pub spans : (o w : ℕ) → Width w → o % w ≡ 0 → (0 < w) × (o % 4 + w ≤ 4)
spans o w (inl e) h = rw e (omega arith)
spans o w (inr (inl e)) h = let d : o % 2 ≡ 0 = rw e at h in rw e (omega arith)
spans o w (inr (inr e)) h = let d : o % 4 ≡ 0 = rw e at h in rw e (omega arith)

-- nor does one of a legal width
pub legal_spans : (o w : ℕ) → legal w ≡ true → o % w ≡ 0 → (0 < w) × (o % 4 + w ≤ 4)
legal_spans o w l h = spans o w ((legal_exactly w).0 l) h
