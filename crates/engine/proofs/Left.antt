-- Of what is left of a list from an index on, the first is at the index. Assumes nothing.
use Rattle.std.proofs.Common.{◌≡◌, ◌+◌, ◌<◌, ◌∷◌, length, length-drop, drop, get_or, arith, List, ℕ, ap}
use Rattle.std.proofs.lemmas.List.{drop_more}

pub below : (xs ys : List ℕ) (i y : ℕ) → drop i xs ≡ y ∷ ys → i < length xs
below xs ys i y e = let l : length (drop i xs) ≡ length (y ∷ ys) = ap length e in grind (arith, l, length-drop)

pub first_left : (xs ys : List ℕ) (i y : ℕ) → drop i xs ≡ y ∷ ys → y ≡ get_or xs i 0
first_left xs ys i y e = let m = drop_more xs i 0 (below xs ys i y e) in cc

pub rest_left : (xs ys : List ℕ) (i y : ℕ) → drop i xs ≡ y ∷ ys → ys ≡ drop (i + 1) xs
rest_left xs ys i y e = let m = drop_more xs i 0 (below xs ys i y e) in cc
