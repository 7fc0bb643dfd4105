-- The recursion over the steps, said of them all (`good_steps`). Assumes nothing.
use Prim.Native.Nat.{ℕ, zero, suc, ◌+◌, ◌*◌}
use Rattle.std.proofs.Common.{add-one, ap, arith}
use mathlib.Core.Path.{◌≡◌, refl, sym, ◌∙◌}
use mathlib.Core.Bool.{Bool, true, false, ◌&&◌}
use mathlib.Core.List.{List, [], ◌∷◌, map}
use Rattle.std.specs.List.{range_with_len, list_all}
use Rattle.std.proofs.lemmas.List.FromFn.{map-range_with_len_more}
use Rattle.std.proofs.lemmas.List.Folds.{list_all-append, list_all-map}
use Rattle.runfile.specs.File.{step_size, step_at, step_good, steps_good}

and_true : (b : Bool) → (b && true) ≡ b
and_true true = refl
and_true false = refl

all_more : (p : ℕ → Bool) (n : ℕ) → list_all p (range_with_len 0 (suc n)) ≡ (list_all p (range_with_len 0 n) && p n)
all_more p n =
    let same = λ (b : Bool). b in
    sym (list_all-map same p (range_with_len 0 (suc n)))
    ∙ ap (λ (k : ℕ). list_all same (map p (range_with_len 0 k))) (sym (add-one n))
    ∙ ap (λ (xs : List Bool). list_all same xs) (map-range_with_len_more p 0 n n (omega arith))
    ∙ list_all-append same (map p (range_with_len 0 n)) (p n ∷ [])
    ∙ (λ j. list_all-map same p (range_with_len 0 n) j && and_true (p n) j)

-- the first n steps are good where each of them is
pub good_steps : (file : List ℕ) (base n : ℕ)
    → steps_good file base n ≡ list_all (λ (i : ℕ). step_good (step_at file (base + step_size * i))) (range_with_len 0 n)
unfolding steps_good
good_steps file base zero = refl
good_steps file base (suc n) =
    let good = λ (i : ℕ). step_good (step_at file (base + step_size * i)) in
    (λ j. good_steps file base n j && good n) ∙ sym (all_more good n)
