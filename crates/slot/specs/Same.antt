-- The steps on a record beside those of the controller: that both give the same. Assumes nothing: these are definitions.
use Rattle.std.specs.Prelude.{◌≡◌, List, [], true, false, ℕ}
use Rattle.terms.specs.Answers.{number_of, value_of}
use Rattle.controller.specs.Steps.{Step, read, write, card_in, card_out, response, block_given, block_taken, busy_over_step, data_error_step, level, turn, World, Result}
use Rattle.slot.specs.Record.{slot_of}
use Rattle.slot.specs.Step.{Stepped, read_of, write_of, in_of, out_of, respond_of, level_of, busy_over, data_error, given_of, taken_of, turn_of}
use Rattle.slot.specs.declared.record.Record.{Record}

-- the world that a record spells, with the buffer and the memory beside it
abbrev pub world_of : Record → List ℕ → List ℕ → World
world_of r buffer mem = record { slot = slot_of r; buffer = buffer; memory = mem }

-- what a step on a record gives: the record after it with its answer, the buffer, the memory, and the room of a taken block
pub record Recorded : Type 0 where
  pub stepped : Stepped
  pub buffer : List ℕ
  pub memory : List ℕ
  pub room : List ℕ

-- a step that leaves buffer and memory alone
abbrev pub plain : List ℕ → List ℕ → Stepped → Recorded
plain buffer mem z = record { stepped = z; buffer = buffer; memory = mem; room = [] }

-- the step of each entry on a record, with the buffer and the memory
abbrev pub record_step : Record → List ℕ → List ℕ → Step → Recorded
record_step r buffer mem (read offset width) = plain buffer mem (read_of r offset width)
record_step r buffer mem (write offset width value) = plain buffer mem (write_of r offset width value)
record_step r buffer mem card_in = plain buffer mem (in_of r)
record_step r buffer mem card_out = plain buffer mem (out_of r)
record_step r buffer mem (response result w) = plain buffer mem (respond_of r result w.first w.second w.third w.fourth)
record_step r buffer mem (block_given block) = let g = given_of r buffer block in record { stepped = g.0; buffer = g.1; memory = mem; room = [] }
record_step r buffer mem (block_taken room) = let g = taken_of r buffer room in record { stepped = g.0; buffer = buffer; memory = mem; room = g.1 }
record_step r buffer mem busy_over_step = plain buffer mem (busy_over r)
record_step r buffer mem (data_error_step number) = plain buffer mem (data_error r number)
record_step r buffer mem (level true) = plain buffer mem (level_of r 1)
record_step r buffer mem (level false) = plain buffer mem (level_of r 0)
record_step r buffer mem turn = let g = turn_of r buffer mem in record { stepped = g.0; buffer = g.1; memory = g.2; room = [] }

-- a step on a record and a step of the controller give the same: the world after it, the room, the answer's number and its value
pub record Agree (g : Recorded) (c : Result) : Type 0 where
  pub world : world_of g.stepped.after g.buffer g.memory ≡ c.world
  pub room : g.room ≡ c.room
  pub number : g.stepped.answer.number ≡ number_of c.answer
  pub value : g.stepped.answer.value ≡ value_of c.answer
