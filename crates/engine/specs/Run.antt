-- A run of a transfer: any list of the engine's own steps, on one lent memory. Assumes nothing: these are definitions.
use Rattle.std.specs.Prelude.{ℕ, suc, ◌+◌, List, [], ◌∷◌, ◌++◌, Bool, false, cond, not, take}
use Rattle.terms.specs.Answers.{value_of, is_done}
use Rattle.terms.specs.Answers.{Answer}
use Rattle.table.specs.Trace.{ring_of}
use Rattle.engine.specs.Transfer.{respond_of}
use Rattle.engine.specs.Turn.{Turned, turn_of}
use Rattle.engine.specs.Block.{Passed, given_of, taken_of}
use Rattle.engine.specs.declared.transfer.Dat.{Dat}
use Rattle.engine.specs.declared.transfer.Dat.TheVariants.{Free, Busy, Runs, Stuck, Halted}
use Rattle.engine.specs.declared.transfer.Outcome.{Outcome}
use Rattle.engine.specs.declared.transfer.Outcome.TheVariants.{Goes, Completes, Fails}

-- the response comes in, a turn, a block given, a block taken into a lent room
pub data Event : Type 0 where
  reply : Event
  go : Event
  given : List ℕ → Event
  taken : (room : List ℕ) → Event

-- the DAT side, 058h, the end that was told, the buffer, memory, the bytes that have passed between controller and card, how often DMA Interrupt
-- was raised, and how many turns and how many steps were accepted
pub record World : Type 0 where
  pub dat : Dat
  pub table : ℕ
  pub told : Outcome
  pub buffer : List ℕ
  pub memory : List ℕ
  pub passed : List ℕ
  pub rings : ℕ
  pub turns : ℕ
  pub steps : ℕ

abbrev pub tally : Answer → ℕ → ℕ
tally answer n = cond (is_done answer) (suc n) n

-- the end that was told first
abbrev pub told_of : Outcome → Outcome → Outcome
told_of Goes new = new
told_of Completes new = Completes
told_of (Fails f) new = Fails f

-- does a running transfer await its response?
abbrev pub awaits_of : Dat → Bool
awaits_of Free = false
awaits_of (Busy answered) = false
awaits_of (Runs t) = not t.answered
awaits_of Stuck = false
awaits_of (Halted way) = false

abbrev pub replied_of : Dat → Dat
replied_of Free = Free
replied_of (Busy answered) = Busy answered
replied_of (Runs t) = Runs (respond_of t)
replied_of Stuck = Stuck
replied_of (Halted way) = Halted way

abbrev pub after_reply : World → World
after_reply w =
    record {
      dat = replied_of w.dat;
      table = w.table;
      told = w.told;
      buffer = w.buffer;
      memory = w.memory;
      passed = w.passed;
      rings = w.rings;
      turns = w.turns;
      steps = suc w.steps;
    }

abbrev pub after_turn : World → Turned × List ℕ × List ℕ → World
after_turn w r =
    record {
      dat = r.0.dat;
      table = r.0.table;
      told = told_of w.told r.0.outcome;
      buffer = r.1;
      memory = r.2;
      passed = w.passed;
      rings = ring_of r.0.int + w.rings;
      turns = tally r.0.answer w.turns;
      steps = tally r.0.answer w.steps;
    }

-- a block event, in which a block passes if it is accepted
abbrev pub after_block : World → Passed → List ℕ → List ℕ → World
after_block w r buffer block =
    record {
      dat = r.dat;
      table = w.table;
      told = told_of w.told r.outcome;
      buffer = buffer;
      memory = w.memory;
      passed = cond (is_done r.answer) (w.passed ++ block) w.passed;
      rings = w.rings;
      turns = w.turns;
      steps = tally r.answer w.steps;
    }

-- a block taken is as many of the room's first bytes as the event's value says
unfoldable pub next : World → Event → World
next w reply = cond (awaits_of w.dat) (after_reply w) w
next w go = after_turn w (turn_of w.dat w.table w.buffer w.memory)
next w (given block) = let r = given_of w.dat w.buffer block in after_block w r.0 r.1 block
next w (taken room) = let r = taken_of w.dat w.buffer room in after_block w r.0 w.buffer (take (value_of r.0.answer) r.1)

unfoldable pub run : World → List Event → World
run w [] = w
run w (e ∷ es) = run (next w e) es

-- a run begins
abbrev pub start : Dat → ℕ → List ℕ → List ℕ → World
start dat table buffer mem =
    record { dat = dat; table = table; told = Goes; buffer = buffer; memory = mem; passed = []; rings = 0; turns = 0; steps = 0 }
