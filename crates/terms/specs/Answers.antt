-- "An answer is a number and a value." Each row of the table has one name, and here are its number and its value.
-- Assumes nothing: these are definitions.
use Rattle.std.specs.Prelude.{ℕ, Bool, eqb, Result, Ok, Err}
use Rattle.terms.specs.declared.Refusal.{Refusal}
use Rattle.terms.specs.declared.Refusal.TheVariants.{NoPlace, DatInhibited, CommandInhibited, DatInUse, Unpowered, NotCarried, OutOfTurn, WrongLength, NotYet, NoTransfer, MemoryTooLarge, LimitTooHigh, LineRefused}

-- what a step answers: a value, or a row of the table
abbrev pub Answer : Type 0
Answer = Result ℕ Refusal

-- "No"
abbrev pub row_of : Refusal → ℕ
row_of NoPlace = 1
row_of DatInhibited = 2
row_of CommandInhibited = 3
row_of DatInUse = 4
row_of Unpowered = 5
row_of NotCarried = 6
row_of OutOfTurn = 7
row_of WrongLength = 8
row_of NotYet = 9
row_of NoTransfer = 10
row_of MemoryTooLarge = 11
row_of LimitTooHigh = 12
row_of LineRefused = 17

abbrev pub number_of : {A : Type 0} → Result A Refusal → ℕ
number_of (Ok v) = 0
number_of (Err refusal) = row_of refusal

-- 0: "done"
abbrev pub is_done : {A : Type 0} → Result A Refusal → Bool
is_done a = eqb (number_of a) 0

-- "All but 0 have value 0"
abbrev pub value_of : Answer → ℕ
value_of (Ok v) = v
value_of (Err refusal) = 0
