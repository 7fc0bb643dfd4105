-- What a test says: each Bool of a definition holds, or fails, exactly when a statement does; a law of several is proved by its rows. Assumes nothing.
use Prim.Native.Nat.{ℕ, zero, suc, ◌≤◌, ◌<◌}
use mathlib.Core.Path.{◌≡◌, refl}
use mathlib.Core.Logic.Iff
use mathlib.Core.Logic.{◌↔◌, ◌≢◌, ◌⊎◌, inl, inr, ⊎_elim}
use mathlib.Core.Bool.{Bool, true, false, cond, ◌&&◌, ◌||◌, beq, true≢false, false≢true}
use lib.Dec.{eqb, leb, ltb}
use borrow.Author.Tests.{eqb-true, eqb-false, eq-eqb, ne_eqb, leb-true, leb-false, le-leb, lt-leb, ltb-true, ltb-false, lt-ltb, le-ltb}

-- ---- of numbers

-- equal
pub eq_test : (a b : ℕ) → (eqb a b ≡ true) ↔ (a ≡ b)
eq_test a b = (eqb-true a b, eq-eqb a b)

-- not equal
pub eq_fails : (a b : ℕ) → (eqb a b ≡ false) ↔ (a ≢ b)
eq_fails a b = (eqb-false a b, ne_eqb a b)

-- at most
pub le_test : (a b : ℕ) → (leb a b ≡ true) ↔ (a ≤ b)
le_test a b = (leb-true a b, le-leb a b)

-- more than
pub le_fails : (a b : ℕ) → (leb a b ≡ false) ↔ (b < a)
le_fails a b = (leb-false a b, lt-leb a b)

-- below
pub lt_test : (a b : ℕ) → (ltb a b ≡ true) ↔ (a < b)
lt_test a b = (ltb-true a b, lt-ltb a b)

-- not below
pub lt_fails : (a b : ℕ) → (ltb a b ≡ false) ↔ (b ≤ a)
lt_fails a b = (ltb-false a b, le-ltb a b)

-- ---- of tests

-- both hold
pub both : {P Q : Type 0} (a b : Bool) → (a ≡ true) ↔ P → (b ≡ true) ↔ Q → ((a && b) ≡ true) ↔ (P × Q)
both true b p q = (λ h. (p.0 refl, q.0 h), λ (x, y). q.1 y)
both false b p q = (λ h. absurd (false≢true h), λ (x, y). p.1 x)

-- one of two holds
pub either : {P Q : Type 0} (a b : Bool) → (a ≡ true) ↔ P → (b ≡ true) ↔ Q → ((a || b) ≡ true) ↔ (P ⊎ Q)
either true b p q = (λ h. inl (p.0 refl), λ x. refl)
either false b p q = (λ h. inr (q.0 h), ⊎_elim (λ x. absurd (false≢true (p.1 x))) q.1)

-- one of two fails
pub lacks : {P Q : Type 0} (a b : Bool) → (a ≡ false) ↔ P → (b ≡ false) ↔ Q → ((a && b) ≡ false) ↔ (P ⊎ Q)
lacks true b p q = (λ h. inr (q.0 h), ⊎_elim (λ x. absurd (true≢false (p.1 x))) q.1)
lacks false b p q = (λ h. inl (p.0 refl), λ x. refl)

-- a test fails where what it says does not hold
pub fails : {P : Type 0} (a : Bool) → (a ≡ true) ↔ P → (a ≡ false) ↔ (P → ⊥)
fails true p = (λ h. absurd (true≢false h), λ n. absurd (n (p.0 refl)))
fails false p = (λ h x. false≢true (p.1 x), λ n. refl)

-- neither of two holds
pub nor : (a b : Bool) → a ≡ false → b ≡ false → (a || b) ≡ false
nor a b p q = rw (p, q)

-- a test decides between two values
pub by_test : {A : Type 0} (P : A → Type 0) (t : Bool) {a b : A} → (t ≡ true → P a) → (t ≡ false → P b) → P (cond t a b)
by_test P true f g = f refl
by_test P false f g = g refl

-- ---- laws of tests, proved row by row

-- what n tests decide
abbrev pub Truth : ℕ → Type 0
Truth zero = Bool
Truth (suc n) = Bool → Truth n

-- a and b agree wherever h fails
abbrev pub Law : (n : ℕ) → Truth n → Truth n → Truth n → Type 0
Law zero h a b = h ≡ false → a ≡ b
Law (suc n) h a b = (x : Bool) → Law n (h x) (a x) (b x)

-- they do in every row
abbrev pub rows : (n : ℕ) → Truth n → Truth n → Truth n → Bool
rows zero h a b = h || beq a b
rows (suc n) h a b = rows n (h true) (a true) (b true) && rows n (h false) (a false) (b false)

-- so it is a law
pub law : (n : ℕ) (h a b : Truth n) → rows n h a b ≡ true → Law n h a b
law zero true a b e = λ g. absurd (true≢false g)
law zero false true true e = λ g. refl
law zero false true false e = absurd (false≢true e)
law zero false false true e = absurd (false≢true e)
law zero false false false e = λ g. refl
law (suc n) h a b e =
    let (s, t) = (both (rows n (h true) (a true) (b true)) _ Iff.rfl Iff.rfl).0 e in
    each (law n (h true) (a true) (b true) s) (law n (h false) (a false) (b false) t)
  where
    each : Law n (h true) (a true) (b true) → Law n (h false) (a false) (b false) → (x : Bool) → Law n (h x) (a x) (b x)
    each s t true = s
    each s t false = t
