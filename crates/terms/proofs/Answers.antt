-- What a number and a value say of an answer. Assumes nothing.
use Prim.Native.Nat.{ℕ}
use mathlib.Core.Path.{◌≡◌, refl, sym, ◌∙◌}
use mathlib.Core.Logic.{◌≢◌}
use mathlib.Core.List.{List, [], ◌∷◌}
use mathlib.Core.Bool.{cond}
use lib.Dec.{eqb}
use Rattle.std.specs.Prelude.{Result, Ok, Err}
use Rattle.terms.specs.declared.Refusal.{Refusal}
use Rattle.terms.specs.declared.Refusal.TheVariants.{NoPlace, DatInhibited, CommandInhibited, DatInUse, Unpowered, NotCarried, OutOfTurn, WrongLength, NotYet, NoTransfer, MemoryTooLarge, LimitTooHigh, LineRefused}
use Rattle.terms.specs.Answers.{Answer, row_of, number_of, value_of}

-- "All but 0 have value 0"
pub refusal_value : (a : Answer) → number_of a ≢ 0 → value_of a ≡ 0
refusal_value (Ok v) h = absurd (h refl)
refusal_value (Err refusal) h = refl

-- the refusals by their numbers
rows : List (ℕ × Answer)
rows =
    (1, Err NoPlace)
    ∷ (2, Err DatInhibited)
    ∷ (3, Err CommandInhibited)
    ∷ (4, Err DatInUse)
    ∷ (5, Err Unpowered)
    ∷ (6, Err NotCarried)
    ∷ (7, Err OutOfTurn)
    ∷ (8, Err WrongLength)
    ∷ (9, Err NotYet)
    ∷ (10, Err NoTransfer)
    ∷ (11, Err MemoryTooLarge)
    ∷ (12, Err LimitTooHigh)
    ∷ (17, Err LineRefused)
    ∷ []

row : ℕ → List (ℕ × Answer) → Answer → Answer
row n [] other = other
row n (r ∷ rest) other = cond (eqb n r.0) r.1 (row n rest other)

-- the answer with a number and a value
named : ℕ → ℕ → Answer
named n v = row n rows (Ok v)

named_back : (a : Answer) → named (number_of a) (value_of a) ≡ a
unfolding named row rows
named_back (Ok v) = refl
named_back (Err NoPlace) = refl
named_back (Err DatInhibited) = refl
named_back (Err CommandInhibited) = refl
named_back (Err DatInUse) = refl
named_back (Err Unpowered) = refl
named_back (Err NotCarried) = refl
named_back (Err OutOfTurn) = refl
named_back (Err WrongLength) = refl
named_back (Err NotYet) = refl
named_back (Err NoTransfer) = refl
named_back (Err MemoryTooLarge) = refl
named_back (Err LimitTooHigh) = refl
named_back (Err LineRefused) = refl

-- "An answer is a number and a value": no two names share both
pub told_apart : (a b : Answer) → number_of a ≡ number_of b → value_of a ≡ value_of b → a ≡ b
told_apart a b n v = sym (named_back a) ∙ rw (n, v) (named_back b)
