-- Two texts put one behind the other are one text put (`put_then`), and how long the parts of a line are. Assumes nothing.
use Prim.Native.Nat.{ℕ, ◌+◌, ◌/◌, ◌%◌, ◌≤◌}
use native.Mathlib.Omega.{arith}
use mathlib.Core.Path.{◌≡◌, refl, ◌∙◌}
use mathlib.Core.Bool.{Bool, true, false, cond}
use mathlib.Core.List.{List, [], ◌∷◌, ◌++◌, append-nil, append_assoc}
use lib.ListN.{length, take, length-append, drop_of_length-le}
use Rattle.std.proofs.Common.{ap}
use Rattle.std.proofs.lemmas.List.Edits.{length-paste}
use lib.Seq.{paste, take_all, take-length, drop-drop, take-paste, drop-paste}
use lib.Dec.{leb, ltb}
use borrow.Author.Tests.{leb-true, leb-false}
use Rattle.runfile.specs.Text.{decimal, rest_text, put_of}

-- a copy behind the end lengthens the list
paste_past : (out s : List ℕ) (at : ℕ) → length out ≤ at → paste out at s (length s) ≡ out ++ s
paste_past out s at h = rw (take_all at out h, take-length s, drop_of_length-le out {i = at + length s} (omega arith), append-nil)

-- a copy and then one behind it: one copy
paste_both : (out s t : List ℕ) (at : ℕ)
    → paste (paste out at s (length s)) (at + length s) t (length t) ≡ paste out at (s ++ t) (length (s ++ t))
paste_both out s t at = go (leb at (length out)) refl
  where
    go : (b : Bool) → leb at (length out) ≡ b
        → paste (paste out at s (length s)) (at + length s) t (length t) ≡ paste out at (s ++ t) (length (s ++ t))
    go true h =
        let k : at ≤ length out = leb-true _ _ h in
        let e : at + length (s ++ t) ≡ at + length s + length t = omega (arith, length-append s t) in
        rw (
          take-paste out at s (length s) k (omega arith),
          ← drop-drop (length t) (at + length s) (paste out at s (length s)),
          drop-paste out at s (length s) k (omega arith),
          drop-drop (length t) (at + length s) out,
          take-length s,
          take-length t,
          take-length (s ++ t),
          e,
          append_assoc (take at out) s t,
        )
    go false h =
        let k : length out ≤ at = omega (arith, leb-false at (length out) h) in
        let l : length (out ++ s) ≤ at + length s = omega (arith, length-append out s) in
        rw (paste_past out s at k, paste_past (out ++ s) t (at + length s) l, paste_past out (s ++ t) at k, append_assoc)

-- two texts, one behind the other, are one text
pub put_then : (out one two : List ℕ) (at m n : ℕ) (s t : List ℕ) → (m, one) ≡ put_of out at s → (n, two) ≡ put_of one m t → (n, two) ≡ put_of out at (s ++ t)
put_then out one two at m n s t p q =
    let e : at + length s + length t ≡ at + length (s ++ t) = omega (arith, length-append s t) in
    q ∙ (λ j. put_of (p j).1 (p j).0 t) ∙ (λ j. (e j, paste_both out s t at j))

-- and a text ends behind its bytes
pub put_end : (out one : List ℕ) (at m : ℕ) (s : List ℕ) → (m, one) ≡ put_of out at s → m ≡ at + length s
put_end out one at m s p j = (p j).0

-- and a room that has space for it keeps its length
pub put_kept : (out one : List ℕ) (at m : ℕ) (s : List ℕ) → (m, one) ≡ put_of out at s → at + length s ≤ length out → length one ≡ length out
put_kept out one at m s p h = ap length (λ j. (p j).1) ∙ length-paste out at s (length s) h (omega arith)

-- a number in decimal has up to three digits
pub decimal_short : (n : ℕ) → length (decimal n) ≤ 3
decimal_short n = go (ltb n 10) (ltb n 100) (48 + n) (48 + n / 10) (48 + n % 10) (48 + n / 100) (48 + n / 10 % 10) where
  go : (a b : Bool) (u v w x y : ℕ) → length (cond a (u ∷ []) (cond b (v ∷ w ∷ []) (x ∷ y ∷ w ∷ []))) ≤ 3
  go true _ u v w x y = omega arith
  go false true u v w x y = omega arith
  go false false u v w x y = omega arith

-- and the end of a line has twelve bytes
pub rest_long : (value : ℕ) (line : Bool) → length (rest_text value line) ≡ 12
unfolding rest_text
rest_long value line = refl
