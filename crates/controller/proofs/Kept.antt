-- A step that is refused leaves the slot: so the slot after a step is the one that the program gives, or the one that there was. Assumes nothing.
use Prim.Native.Nat.{ℕ}
use native.Mathlib.Omega.{arith}
use mathlib.Core.Path.{◌≡◌, refl, sym, ap}
use mathlib.Core.Logic.{◌≢◌}
use mathlib.Core.List.{List, []}
use mathlib.Core.Bool.{Bool}
use Rattle.std.specs.Prelude.{Result, Ok, Err}
use Rattle.terms.specs.declared.Refusal.{Refusal}
use Rattle.terms.specs.declared.Refusal.TheVariants.{NoPlace, DatInhibited, CommandInhibited, DatInUse, Unpowered, NotCarried, OutOfTurn, WrongLength, NotYet, NoTransfer, MemoryTooLarge, LimitTooHigh, LineRefused}
use Rattle.terms.specs.Answers.{Answer, row_of, number_of}
use Rattle.registers.specs.declared.block.Reply.{Reply}
use Rattle.controller.specs.Slot.{Stepped, done_by, done_of}
use Rattle.controller.specs.Access.{read_of, write_of}
use Rattle.controller.specs.Card.{in_of, out_of, respond_of, level_of}
use Rattle.controller.specs.Data.{given_of, taken_of, busy_over, data_error, turn_of}
use Rattle.controller.specs.Steps.{Step, read, write, card_in, card_out, response, block_given, block_taken, busy_over_step, data_error_step, level, turn, World, step_of}
use Rattle.controller.specs.declared.slot.Slot.{Slot}
use Rattle.controller.specs.declared.slot.Done.{Done}
use Rattle.controller.proofs.Refused.{refused}

-- the slot after a step, by what the program gives
abbrev pub slot_after : Slot → Result Done Refusal → Slot
slot_after s (Ok done) = done.slot
slot_after s (Err refusal) = s

-- no refusal has the number 0
pub row_some : (e : Refusal) → row_of e ≢ 0
row_some NoPlace = omega arith
row_some DatInhibited = omega arith
row_some CommandInhibited = omega arith
row_some DatInUse = omega arith
row_some Unpowered = omega arith
row_some NotCarried = omega arith
row_some OutOfTurn = omega arith
row_some WrongLength = omega arith
row_some NotYet = omega arith
row_some NoTransfer = omega arith
row_some MemoryTooLarge = omega arith
row_some LimitTooHigh = omega arith
row_some LineRefused = omega arith

-- a step that leaves the slot where it is refused
abbrev pub Keeps : Slot → Stepped → Type 0
Keeps s z = number_of z.answer ≢ 0 → z.slot ≡ s

pub after : (s : Slot) (z : Stepped) → Keeps s z → slot_after s (done_of z) ≡ z.slot
after s z k = go z.answer k
  where
    go : (a : Answer) → (number_of a ≢ 0 → z.slot ≡ s) → slot_after s (done_by a z.slot) ≡ z.slot
    go (Ok v) k = refl
    go (Err e) k = sym (k (row_some e))

module _ (s : Slot) where
  at : List ℕ → List ℕ → World
  at buffer mem = record { slot = s; buffer = buffer; memory = mem }

  left : (e : Step) (buffer mem : List ℕ) → number_of (step_of (at buffer mem) e).answer ≢ 0 → (step_of (at buffer mem) e).world.slot ≡ s
  unfolding at
  left e buffer mem h = ap (λ (w : World). w.slot) (refused (at buffer mem) e h).1

  pub read_keeps : (offset width : ℕ) → Keeps s (read_of s offset width)
  unfolding step_of at
  read_keeps offset width = left (read offset width) [] []

  pub write_keeps : (offset width value : ℕ) → Keeps s (write_of s offset width value)
  unfolding step_of at
  write_keeps offset width value = left (write offset width value) [] []

  pub in_keeps : Keeps s (in_of s)
  unfolding step_of at
  in_keeps = left card_in [] []

  pub out_keeps : Keeps s (out_of s)
  unfolding step_of at
  out_keeps = left card_out [] []

  pub respond_keeps : (n : ℕ) (words : Reply) → Keeps s (respond_of s n words)
  unfolding step_of at
  respond_keeps n words = left (response n words) [] []

  pub level_keeps : (up : Bool) → Keeps s (level_of s up)
  unfolding step_of at
  level_keeps up = left (level up) [] []

  pub busy_keeps : Keeps s (busy_over s)
  unfolding step_of at
  busy_keeps = left busy_over_step [] []

  pub error_keeps : (n : ℕ) → Keeps s (data_error s n)
  unfolding step_of at
  error_keeps n = left (data_error_step n) [] []

  pub given_keeps : (buffer block : List ℕ) → Keeps s (given_of s buffer block).0
  unfolding step_of at
  given_keeps buffer block = left (block_given block) buffer []

  pub taken_keeps : (buffer room : List ℕ) → Keeps s (taken_of s buffer room).0
  unfolding step_of at
  taken_keeps buffer room = left (block_taken room) buffer []

  pub turn_keeps : (buffer mem : List ℕ) → Keeps s (turn_of s buffer mem).0
  unfolding step_of at
  turn_keeps buffer mem = left turn buffer mem
