-- What is stored of a step is what the definition of the step spells: nothing where it is refused. Assumes nothing.
use Prim.Native.Nat.{ℕ}
use mathlib.Core.Path.{◌≡◌, refl}
use mathlib.Core.Bool.{false}
use Rattle.std.specs.Prelude.{Ok, Err}
use Rattle.terms.specs.declared.Refusal.{Refusal}
use Rattle.terms.specs.declared.Refusal.TheVariants.{NoPlace, DatInhibited, CommandInhibited, DatInUse, Unpowered, NotCarried, OutOfTurn, WrongLength, NotYet, NoTransfer, MemoryTooLarge, LimitTooHigh, LineRefused}
use Rattle.terms.specs.Answers.{Answer, is_done}
use Rattle.controller.specs.Slot as controller
use Rattle.slot.specs.Step.{spelled, settled}
use Rattle.slot.specs.declared.record.Record.{Record}

-- a refusal is not done
not_done : (e : Refusal) → is_done {A = ℕ} (Err e) ≡ false
not_done NoPlace = refl
not_done DatInhibited = refl
not_done CommandInhibited = refl
not_done DatInUse = refl
not_done Unpowered = refl
not_done NotCarried = refl
not_done OutOfTurn = refl
not_done WrongLength = refl
not_done NotYet = refl
not_done NoTransfer = refl
not_done MemoryTooLarge = refl
not_done LimitTooHigh = refl
not_done LineRefused = refl

pub settled_is : (r : Record) (z : controller.Stepped) → settled r (controller.done_of z) ≡ spelled r z
settled_is r z = go z.answer
  where
    go : (a : Answer) → settled r (controller.done_by a z.slot) ≡ spelled r (controller.stepped_as a z.slot)
    go (Ok v) = refl
    go (Err e) = rw (not_done e) refl
