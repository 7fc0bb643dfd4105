-- "Steps ... Kinds": one step over the controller, and a whole run (01 "The run program"). Assumes nothing: these are definitions.
use Rattle.std.specs.Prelude.{ℕ, zero, suc, min, ◌+◌, ◌-◌, ◌*◌, List, [], ◌++◌, cond, take, drop, length, eqb, Option, Some, None, Result, Ok, Err}
use Rattle.terms.specs.declared.Refusal.{Refusal}
use Rattle.controller.specs.declared.slot.Done.{Done}
use Rattle.terms.specs.Answers.{number_of, value_of, is_done}
use Rattle.terms.specs.Answers.{Answer}
use Rattle.registers.specs.Block.{block_size}
use Rattle.registers.specs.declared.block.Reply.{Reply}
use Rattle.controller.specs.Slot.{Stepped, power_on, line_now}
use Rattle.controller.specs.Access.{read_of, write_of}
use Rattle.controller.specs.Card.{in_of, out_of, respond_of, level_of}
use Rattle.controller.specs.Data.{given_of, taken_of, busy_over, data_error, turn_of}
use Rattle.controller.specs.declared.slot.Slot.{Slot}
use Rattle.runfile.specs.File.{memory_base, steps_base, card_base, step_size, step_at, good_of}
use Rattle.runfile.specs.Text.{bad_text, head_text, line_text, put_of}
use Rattle.runfile.specs.declared.file.Layout.{Layout}
use Rattle.runfile.specs.declared.file.Step.{Step}
use Rattle.runfile.specs.declared.run.RunState.{RunState}

-- the answer to a step, and the run after it
pub record StepDone : Type 0 where
  pub answer : Answer
  pub state : RunState

-- a run between two steps: the slot, how many card bytes are used up; beside it the memory, the one-block buffer and the room
pub record RunWorld : Type 0 where
  pub state : RunState
  pub memory : List ℕ
  pub buffer : List ℕ
  pub room : List ℕ

abbrev pub state_as : Slot → ℕ → RunState
state_as s used = record { slot = s; used = used }

abbrev pub done_as : Answer → RunState → StepDone
done_as a r = record { answer = a; state = r }

-- a step, as the program of the controller gives it: a refusal leaves the run
abbrev pub made_of : RunState → Result Done Refusal → StepDone
made_of r (Ok done) = done_as (Ok done.value) (state_as done.slot r.used)
made_of r (Err refusal) = done_as (Err refusal) r

-- a step that lends nothing
abbrev pub plain_of : RunState → Stepped → StepDone
plain_of r s = done_as s.answer (state_as s.slot r.used)

abbrev pub words_of : Step → Reply
words_of s = record { first = s.first; second = s.second; third = s.third; fourth = s.fourth }

-- "0 write (detail width, first word value), 1 read (detail width), 2 in, 3 out, 4 response (detail, all four words), ... 7 busy over, 8 data error (detail),
-- 9 level (detail 0 or 1)"
abbrev pub quiet_of : Step → Slot → Stepped
quiet_of s slot =
    cond (eqb s.kind 0) (write_of slot s.offset s.detail s.first)
    (cond (eqb s.kind 1) (read_of slot s.offset s.detail)
    (cond (eqb s.kind 2) (in_of slot)
    (cond (eqb s.kind 3) (out_of slot)
    (cond (eqb s.kind 4) (respond_of slot s.detail (words_of s))
    (cond (eqb s.kind 7) (busy_over slot)
    (cond (eqb s.kind 8) (data_error slot s.detail) (level_of slot (eqb s.detail 1))))))))

-- "Kind 5 offers the next block-size card bytes, or what is left"
abbrev pub offered_of : List ℕ → RunState → ℕ
offered_of card r = min (block_size r.slot.registers) (length card - r.used)

-- "and uses them up only on answer 0"
abbrev pub used_after : Answer → ℕ → ℕ → ℕ
used_after a used n = cond (is_done a) (used + n) used

abbrev pub give_of : List ℕ → RunState → List ℕ → StepDone × List ℕ
give_of card r buffer =
    let n = offered_of card r in
    let g = given_of r.slot buffer (take n (drop r.used card)) in
    (done_as g.0.answer (state_as g.0.slot (used_after g.0.answer r.used n)), g.1)

-- "6 taken (room 512)": the function `run` has a room of 512 bytes by its type
abbrev pub take_of : RunState → List ℕ → List ℕ → StepDone × List ℕ
take_of r buffer room = let t = taken_of r.slot buffer room in (plain_of r t.0, t.1)

-- "10 turn"
abbrev pub go_of : RunState → List ℕ → List ℕ → StepDone × List ℕ × List ℕ
go_of r buffer memory = let t = turn_of r.slot buffer memory in (plain_of r t.0, t.1, t.2)

-- one step: its answer, and the ride after it
unfoldable pub rode_of : List ℕ → Step → RunWorld → StepDone × RunWorld
rode_of card s r =
    cond (eqb s.kind 5)
    (let g = give_of card r.state r.buffer in
    (g.0, record { state = g.0.state; memory = r.memory; buffer = g.1; room = r.room }))
    (cond (eqb s.kind 6)
    (let t = take_of r.state r.buffer r.room in
    (t.0, record { state = t.0.state; memory = r.memory; buffer = r.buffer; room = t.1 }))
    (cond (eqb s.kind 10)
    (let g = go_of r.state r.buffer r.memory in
    (g.0, record { state = g.0.state; memory = g.2; buffer = g.1; room = r.room }))
    (let q = plain_of r.state (quiet_of s r.state.slot) in
    (q, record { state = q.state; memory = r.memory; buffer = r.buffer; room = r.room }))))

-- the line of a step
abbrev pub rode_text : ℕ → StepDone → List ℕ
rode_text number q = line_text number (number_of q.answer) (value_of q.answer) (line_now q.state.slot)

-- so many steps from number i on: the lines, and the ride after them
unfoldable pub rides_of : List ℕ → List ℕ → ℕ → ℕ → ℕ → RunWorld → List ℕ × RunWorld
rides_of file card steps zero i r = ([], r)
rides_of file card steps (suc n) i r =
    let q = rode_of card (step_at file (steps + step_size * i)) r in
    let rest = rides_of file card steps n (i + 1) q.1 in
    (rode_text i q.0 ++ rest.0, rest.1)

-- the lines put into a room from a place on, and the ride after them
abbrev pub rode_all : List ℕ → List ℕ → ℕ → ℕ → ℕ → RunWorld → List ℕ → ℕ → (ℕ × List ℕ) × RunWorld
rode_all file card steps n i r out at = let q = rides_of file card steps n i r in (put_of out at q.0, q.1)

-- a run begins at power-on with no card in, and the file's memory is lent whole
abbrev pub start_of : List ℕ → ℕ → List ℕ → List ℕ → RunWorld
start_of file memory buffer room =
    record { state = state_as power_on 0; memory = take memory (drop memory_base file); buffer = buffer; room = room }

-- the card's bytes: so many, from where they begin in the file
abbrev pub card_of : List ℕ → Layout → List ℕ
card_of file l = take l.card (drop (card_base l.memory l.steps) file)

-- all the steps of a good file
abbrev pub all_of : List ℕ → Layout → List ℕ → List ℕ → List ℕ × RunWorld
all_of file l buffer room =
    rides_of file (card_of file l) (steps_base l.memory) l.steps 0 (start_of file l.memory buffer room)

-- the text of a good file put into a room, and memory, buffer and room after the run
abbrev pub good_run : List ℕ → Layout → List ℕ → List ℕ → List ℕ → (ℕ × List ℕ) × (List ℕ × List ℕ × List ℕ)
good_run file l buffer room out =
    let q = all_of file l buffer room in
    (put_of out 0 (head_text l.steps ++ q.0), (q.1.memory, q.1.buffer, q.1.room))

-- the whole output of a file
abbrev pub run_text : List ℕ → Option Layout → List ℕ → List ℕ → List ℕ
run_text file None buffer room = bad_text
run_text file (Some l) buffer room = head_text l.steps ++ (all_of file l buffer room).0

abbrev pub output_of : List ℕ → List ℕ → List ℕ → List ℕ
output_of file buffer room = run_text file (good_of file) buffer room
