-- The steps on a record: each is the controller's own on the slot that the record spells. Assumes nothing: these are definitions.
use Rattle.std.specs.Prelude.{ℕ, List, cond, Result, Ok, Err}
use Rattle.terms.specs.declared.Refusal.{Refusal}
use Rattle.controller.specs.declared.slot.Done.{Done}
use Rattle.terms.specs.Answers.{number_of, value_of, is_done}
use Rattle.terms.specs.Answers as terms
use Rattle.controller.specs.Access as access
use Rattle.controller.specs.Card as card
use Rattle.controller.specs.Data as side
use Rattle.controller.specs.Slot as controller
use Rattle.slot.specs.Record.{flag_at, slot_of, record_of}
use Rattle.slot.specs.declared.record.Record.{Record}
use Rattle.slot.specs.declared.step.Answer.{Answer}

-- what a step gives: the record after it, and its answer
pub record Stepped : Type 0 where
  pub after : Record
  pub answer : Answer

-- "An answer is a number and a value."
abbrev pub answer_of : terms.Answer → Answer
answer_of a = record { number = number_of a; value = value_of a }

-- "All but 0 ... change nothing": the record stays as it was, byte for byte
abbrev pub keeps : Record → terms.Answer → Stepped
keeps r a = record { after = r; answer = answer_of a }

-- the same, as the program of the controller gives it
abbrev pub made_answer : Result Done Refusal → terms.Answer
made_answer (Ok done) = Ok done.value
made_answer (Err refusal) = Err refusal

abbrev pub settled : Record → Result Done Refusal → Stepped
settled r (Ok done) = record { after = record_of done.slot; answer = answer_of (Ok done.value) }
settled r (Err refusal) = keeps r (Err refusal)

-- what an entry of the controller gives, spelled out
abbrev pub spelled : Record → controller.Stepped → Stepped
spelled r s = cond (is_done s.answer) (record { after = record_of s.slot; answer = answer_of s.answer }) (keeps r s.answer)

-- ---- one step each

-- no read has an effect
abbrev pub read_of : Record → ℕ → ℕ → Stepped
read_of r offset width = keeps r (access.read_of (slot_of r) offset width).answer

abbrev pub write_of : Record → ℕ → ℕ → ℕ → Stepped
write_of r offset width value = spelled r (access.write_of (slot_of r) offset width value)

abbrev pub in_of : Record → Stepped
in_of r = spelled r (card.in_of (slot_of r))

abbrev pub out_of : Record → Stepped
out_of r = spelled r (card.out_of (slot_of r))

abbrev pub respond_of : Record → ℕ → ℕ → ℕ → ℕ → ℕ → Stepped
respond_of r result first second third fourth =
    spelled r (card.respond_of (slot_of r) result (record { first = first; second = second; third = third; fourth = fourth }))

-- the level is down at 0, and up at any other number
abbrev pub level_of : Record → ℕ → Stepped
level_of r up = spelled r (card.level_of (slot_of r) (flag_at up))

abbrev pub busy_over : Record → Stepped
busy_over r = spelled r (side.busy_over (slot_of r))

abbrev pub data_error : Record → ℕ → Stepped
data_error r number = spelled r (side.data_error (slot_of r) number)

abbrev pub given_of : Record → List ℕ → List ℕ → Stepped × List ℕ
given_of r buffer block = let g = side.given_of (slot_of r) buffer block in (spelled r g.0, g.1)

abbrev pub taken_of : Record → List ℕ → List ℕ → Stepped × List ℕ
taken_of r buffer room = let g = side.taken_of (slot_of r) buffer room in (spelled r g.0, g.1)

abbrev pub turn_of : Record → List ℕ → List ℕ → Stepped × List ℕ × List ℕ
turn_of r buffer mem = let g = side.turn_of (slot_of r) buffer mem in (spelled r g.0, g.1, g.2)
