-- A test of the code picks the arm of a `cond` on the same test: four laws for `search`. Assumes nothing.
use Prim.Native.Nat.{ℕ, ◌<◌, ◌≤◌}
use mathlib.Core.Path.{◌≡◌}
use mathlib.Core.Bool.{cond}
use lib.Dec.{eqb, ltb}
use borrow.Author.Tests.{eq-eqb, ne_eqb, lt-ltb, le-ltb}

module _ {A : Type 0} (r x y : A) (m n : ℕ) where
  pub same : m ≡ n → r ≡ x → r ≡ cond (eqb m n) x y
  same e h = rw (eq-eqb m n e) h

  pub other : (m ≡ n → ⊥) → r ≡ y → r ≡ cond (eqb m n) x y
  other e h = rw (ne_eqb m n e) h

  pub under : m < n → r ≡ x → r ≡ cond (ltb m n) x y
  under e h = rw (lt-ltb m n e) h

  pub not_under : n ≤ m → r ≡ y → r ≡ cond (ltb m n) x y
  not_under e h = rw (le-ltb m n e) h
