-- Numbers as sets of bits: what `bit_of` gives of each operation, for every index, and that a number is known by its bits. Assumes nothing.
use Prim.Native.Nat.{ℕ, zero, suc, ◌+◌, ◌-◌, ◌*◌, ◌/◌, ◌%◌, ◌^◌, ◌<◌, min, max}
use native.Mathlib.Nat.{div-one, pow-suc, mul_comm, div-div-eq-div-mul, div-eq_of_lt}
use native.Mathlib.Omega.{arith}
use mathlib.Core.Path.{◌≡◌, refl, sym, ◌∙◌, ap}
use mathlib.Core.Logic.{◌≢◌}
use mathlib.Core.Bool.{Bool, true, false, not, ◌&&◌, ◌||◌, true≢false, false≢true}
use lib.Arith.{bin_ind}
use lib.Bits.{bit_and, bit_or, and_step, or_step, and_comm, and_le_l, and_mask}
use lib.Dec.{eqb, ltb, leb-suc-suc, eqb-zero-suc, eqb-suc-zero, eqb-suc-suc}
use lib.Pow.{pow_pos, shr-shr, shl-shr}
use borrow.Author.Tests.{eqb-false, lt-ltb, le-ltb}
use Rattle.std.proofs.lemmas.Nat.{and-not}
use Rattle.registers.specs.Bits.{bit_of, without, put}

-- a bit by computing, where both are numerals
pub bit_is : (n k : ℕ) → bit_of n k ≡ eqb (n / 2 ^ k % 2) 1
unfolding bit_of
bit_is n k = refl

-- bit 0 is the last digit
pub bit_zero : (n : ℕ) → bit_of n 0 ≡ eqb (n % 2) 1
unfolding bit_of
bit_zero n = rw (div-one n)

-- bit k + 1 is bit k of the half
pub bit_suc : (n k : ℕ) → bit_of n (suc k) ≡ bit_of (n / 2) k
unfolding bit_of
bit_suc n k = ap (λ (m : ℕ). eqb (m % 2) 1) (ap (λ (m : ℕ). n / m) (pow-suc 2 k ∙ mul_comm (2 ^ k) 2) ∙ sym (div-div-eq-div-mul n 2 (2 ^ k)))

-- an operation defined on last digits and halves acts on each bit by itself
module _ (op f : ℕ → ℕ → ℕ) (g : Bool → Bool → Bool)
    (step : (a b : ℕ) → op a b ≡ op (a / 2) (b / 2) * 2 + f (a % 2) (b % 2))
    (small : (x y : ℕ) → x < 2 → y < 2 → f x y < 2)
    (digit : (x y : ℕ) → x < 2 → y < 2 → eqb (f x y) 1 ≡ g (eqb x 1) (eqb y 1)) where
  bitwise_bit : (a b k : ℕ) → bit_of (op a b) k ≡ g (bit_of a k) (bit_of b k)
  bitwise_bit a b zero =
      let s = step a b in
      let t = small (a % 2) (b % 2) (omega arith) (omega arith) in
      let e : op a b % 2 ≡ f (a % 2) (b % 2) = omega arith in
      simp (bit_zero, e) (digit (a % 2) (b % 2) (omega arith) (omega arith))
  bitwise_bit a b (suc k) =
      let s = step a b in
      let t = small (a % 2) (b % 2) (omega arith) (omega arith) in
      let e : op a b / 2 ≡ op (a / 2) (b / 2) = omega arith in
      simp (bit_suc, e) (bitwise_bit (a / 2) (b / 2) k)

-- what holds of 0 and 1 in both places holds of any two digits
by_digits : (P : ℕ → ℕ → Type 0) → P 0 0 → P 0 1 → P 1 0 → P 1 1 → (x y : ℕ) → x < 2 → y < 2 → P x y
by_digits P p00 p01 p10 p11 zero zero hx hy = p00
by_digits P p00 p01 p10 p11 zero (suc zero) hx hy = p01
by_digits P p00 p01 p10 p11 zero (suc (suc y)) hx hy = absurd (omega arith)
by_digits P p00 p01 p10 p11 (suc zero) zero hx hy = p10
by_digits P p00 p01 p10 p11 (suc zero) (suc zero) hx hy = p11
by_digits P p00 p01 p10 p11 (suc zero) (suc (suc y)) hx hy = absurd (omega arith)
by_digits P p00 p01 p10 p11 (suc (suc x)) y hx hy = absurd (omega arith)

-- the bits of both
pub bit_and_lem : (a b k : ℕ) → bit_of (bit_and a b) k ≡ (bit_of a k && bit_of b k)
bit_and_lem =
    bitwise_bit bit_and min ◌&&◌ and_step (λ x y hx hy. omega arith)
    (by_digits (λ x y. eqb (min x y) 1 ≡ (eqb x 1 && eqb y 1)) refl refl refl refl)

-- the bits of either
pub bit_or_lem : (a b k : ℕ) → bit_of (bit_or a b) k ≡ (bit_of a k || bit_of b k)
bit_or_lem =
    bitwise_bit bit_or max ◌||◌ or_step (λ x y hx hy. omega arith)
    (by_digits (λ x y. eqb (max x y) 1 ≡ (eqb x 1 || eqb y 1)) refl refl refl refl)

-- `without` goes by last digits and halves, as the other two do
without_step : (a b : ℕ) → without a b ≡ without (a / 2) (b / 2) * 2 + (a % 2 - min (a % 2) (b % 2))
unfolding without
without_step a b =
    let s = and_step a b in
    let l = and_le_l (a / 2) (b / 2) in
    omega arith

-- the bits of the one that are not of the other
pub bit_without : (a b k : ℕ) → bit_of (without a b) k ≡ (bit_of a k && not (bit_of b k))
bit_without =
    bitwise_bit without (λ x y. x - min x y) (λ p q. p && not q) without_step (λ x y hx hy. omega arith)
    (by_digits (λ x y. eqb (x - min x y) 1 ≡ (eqb x 1 && not (eqb y 1))) refl refl refl refl)

-- as a `&` with the other bits of 32 gives them
pub and_others : (a b : ℕ) → a < 2 ^ 32 → b < 2 ^ 32 → bit_and a (4294967295 - b) ≡ without a b
unfolding without
and_others a b ha hb =
    let e : bit_and (4294967295 - b) a + bit_and b a ≡ a = and-not 32 b a hb ha in
    rw (and_comm a (4294967295 - b), and_comm a b) (omega arith)

-- the old bits outside the lanes, and the new ones
pub bit_put : (old lanes bits k : ℕ) → bit_of (put old lanes bits) k ≡ (bit_of old k && not (bit_of lanes k) || bit_of bits k)
unfolding put
bit_put old lanes bits k = rw (bit_or_lem, bit_without)

-- what each operation makes of a bit
pub ruleset bitwise = (bit_and_lem, bit_or_lem, bit_without, bit_put)

-- 0 is the empty set
pub bit_none : (k : ℕ) → bit_of 0 k ≡ false
bit_none zero = bit_zero 0
bit_none (suc k) = bit_suc 0 k ∙ bit_none k

-- no bit stands in a number that is 0
pub none_at : (n k : ℕ) → n ≡ 0 → bit_of n k ≡ false
none_at n k e = rw e (bit_none k)

-- so a number in which one stands is not
pub bit_some : (n k : ℕ) → bit_of n k ≡ true → n ≢ 0
bit_some n k s z = false≢true (sym (none_at n k z) ∙ s)

-- and one in which none stands is
pub no_bits : (n : ℕ) → ((k : ℕ) → bit_of n k ≡ false) → n ≡ 0
no_bits =
    bin_ind (λ (n : ℕ). ((k : ℕ) → bit_of n k ≡ false) → n ≡ 0) (λ h. refl)
    (λ n ih h.
    let half = ih (λ k. sym (bit_suc n k) ∙ h (suc k)) in
    let odd = eqb-false (n % 2) 1 (sym (bit_zero n) ∙ h 0) in
    omega arith)

-- numbers are equal where all their bits are
pub same_bits : (a b : ℕ) → ((k : ℕ) → bit_of a k ≡ bit_of b k) → a ≡ b
same_bits =
    bin_ind (λ (a : ℕ). (b : ℕ) → ((k : ℕ) → bit_of a k ≡ bit_of b k) → a ≡ b)
    (λ b h. sym (no_bits b (λ k. sym (h k) ∙ bit_none k)))
    (λ a ih b h.
    let half = ih (b / 2) (λ k. sym (bit_suc a k) ∙ h (suc k) ∙ bit_suc b k) in
    let odd = same_odd (a % 2) (b % 2) (omega arith) (omega arith) (sym (bit_zero a) ∙ h 0 ∙ bit_zero b) in
    omega arith)
  where
    same_odd : (x y : ℕ) → x < 2 → y < 2 → eqb x 1 ≡ eqb y 1 → x ≡ y
    same_odd = by_digits (λ x y. eqb x 1 ≡ eqb y 1 → x ≡ y) (λ e. refl) (λ e. absurd (false≢true e)) (λ e. absurd (true≢false e)) (λ e. refl)

-- below 2 ^ k, bit k is 0
pub bit_high : (n k : ℕ) → n < 2 ^ k → bit_of n k ≡ false
unfolding bit_of
bit_high n k h = rw (div-eq_of_lt h)

-- 2 ^ j is the set of j alone
pub bit_power : (j k : ℕ) → bit_of (2 ^ j) k ≡ eqb k j
bit_power zero zero = bit_zero 1
bit_power zero (suc k) = simp (bit_suc, bit_none, eqb-suc-zero)
bit_power (suc j) zero = let e : 2 ^ suc j % 2 ≡ 0 = omega (arith, pow-suc 2 j) in simp (bit_zero, e, eqb-zero-suc)
bit_power (suc j) (suc k) = let e : 2 ^ suc j / 2 ≡ 2 ^ j = omega (arith, pow-suc 2 j) in simp (bit_suc, e, eqb-suc-suc, bit_power j k)

-- 2 ^ j - 1 is the set of all below j
pub bit_ones : (j k : ℕ) → bit_of (2 ^ j - 1) k ≡ ltb k j
bit_ones zero k = bit_none k ∙ sym (le-ltb k 0 (omega arith))
bit_ones (suc j) zero =
    let e : (2 ^ suc j - 1) % 2 ≡ 1 = omega (arith, pow-suc 2 j, pow_pos j) in
    simp (bit_zero, e, lt-ltb 0 (suc j) (omega arith))
bit_ones (suc j) (suc k) =
    let e : (2 ^ suc j - 1) / 2 ≡ 2 ^ j - 1 = omega (arith, pow-suc 2 j, pow_pos j) in
    simp (bit_suc, e, bit_ones j k, leb-suc-suc)

-- a shift down
pub bit_shr : (n s k : ℕ) → bit_of (n / 2 ^ s) k ≡ bit_of n (s + k)
unfolding bit_of
bit_shr n s k = ap (λ (m : ℕ). eqb (m % 2) 1) (shr-shr n s k)

-- a shift up
pub bit_shl : (n s k : ℕ) → bit_of (n * 2 ^ s) (s + k) ≡ bit_of n k
bit_shl n s k = sym (bit_shr (n * 2 ^ s) s k) ∙ ap (λ (m : ℕ). bit_of m k) (shl-shr n s)

-- a remainder keeps the low bits
pub bit_mod : (n s k : ℕ) → bit_of (n % 2 ^ s) k ≡ (bit_of n k && ltb k s)
bit_mod n s k = ap (λ (m : ℕ). bit_of m k) (sym (and_mask n s)) ∙ bit_and_lem n (2 ^ s - 1) k ∙ ap (λ (b : Bool). bit_of n k && b) (bit_ones s k)
