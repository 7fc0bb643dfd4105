-- Every entry of the slot in one list, and one step of each: what the theorems over all entries speak of. Assumes nothing: these are definitions.
use Rattle.controller.specs.Slot.{Stepped}
use Rattle.std.specs.Prelude.{ℕ, List, [], Bool}
use Rattle.terms.specs.Answers.{Answer}
use Rattle.registers.specs.declared.block.Reply.{Reply}
use Rattle.controller.specs.Access.{read_of, write_of}
use Rattle.controller.specs.Card.{in_of, out_of, respond_of, level_of}
use Rattle.controller.specs.Data.{given_of, taken_of, busy_over, data_error, turn_of}
use Rattle.controller.specs.declared.slot.Slot.{Slot}

-- an entry with its arguments; a taken block comes with the room lent for it
pub data Step : Type 0 where
  read : (offset width : ℕ) → Step
  write : (offset width value : ℕ) → Step
  card_in : Step
  card_out : Step
  response : (result : ℕ) → Reply → Step
  block_given : (block : List ℕ) → Step
  block_taken : (room : List ℕ) → Step
  busy_over_step : Step
  data_error_step : (number : ℕ) → Step
  level : (up : Bool) → Step
  turn : Step

-- the slot, the one-block buffer and the lent memory
pub record World : Type 0 where
  pub slot : Slot
  pub buffer : List ℕ
  pub memory : List ℕ

-- what a step gives: its answer, the world after it, and the room of a taken block (nothing where there is none)
pub record Result : Type 0 where
  pub answer : Answer
  pub world : World
  pub room : List ℕ

abbrev pub plain : World → Stepped → Result
plain w s = record { answer = s.answer; world = record { slot = s.slot; buffer = w.buffer; memory = w.memory }; room = [] }

unfoldable pub step_of : World → Step → Result
step_of w (read offset width) = plain w (read_of w.slot offset width)
step_of w (write offset width value) = plain w (write_of w.slot offset width value)
step_of w card_in = plain w (in_of w.slot)
step_of w card_out = plain w (out_of w.slot)
step_of w (response result words) = plain w (respond_of w.slot result words)
step_of w (block_given block) =
    let r = given_of w.slot w.buffer block in
    record { answer = r.0.answer; world = record { slot = r.0.slot; buffer = r.1; memory = w.memory }; room = [] }
step_of w (block_taken room) =
    let r = taken_of w.slot w.buffer room in
    record { answer = r.0.answer; world = record { slot = r.0.slot; buffer = w.buffer; memory = w.memory }; room = r.1 }
step_of w busy_over_step = plain w (busy_over w.slot)
step_of w (data_error_step number) = plain w (data_error w.slot number)
step_of w (level up) = plain w (level_of w.slot up)
step_of w turn =
    let r = turn_of w.slot w.buffer w.memory in
    record { answer = r.0.answer; world = record { slot = r.0.slot; buffer = r.1; memory = r.2 }; room = [] }

-- the room that a step was lent
abbrev pub lent : Step → List ℕ
lent (read offset width) = []
lent (write offset width value) = []
lent card_in = []
lent card_out = []
lent (response result words) = []
lent (block_given block) = []
lent (block_taken room) = room
lent busy_over_step = []
lent (data_error_step number) = []
lent (level up) = []
lent turn = []
