-- What the DAT side is doing, and where a step leaves a transfer (01 "Lines and turns"). Assumes nothing: these are definitions.
use Rattle.std.specs.Prelude.{ℕ, zero, suc, Bool, true, false}
use Rattle.terms.specs.Counts.{times, bytes}
use Rattle.terms.specs.declared.BlockCount.{BlockCount}
use Rattle.terms.specs.declared.ByteCount.{ByteCount}
use Rattle.table.specs.declared.fetch.Failure.TheVariants as failure
use Rattle.engine.specs.declared.transfer.Way.{Way}
use Rattle.engine.specs.declared.transfer.Stage.{Stage}
use Rattle.engine.specs.declared.transfer.Stage.TheVariants.{Fetching, Moving, Stopped}
use Rattle.engine.specs.declared.transfer.Transfer.{Transfer}
use Rattle.engine.specs.declared.transfer.Dat.{Dat}
use Rattle.engine.specs.declared.transfer.Dat.TheVariants.{Free, Busy, Runs, Stuck, Halted}
use Rattle.engine.specs.declared.transfer.Next.{Next}
use Rattle.engine.specs.declared.transfer.Next.TheVariants.{Fetch, Move, Stop, Finish, Fail}
use Rattle.engine.specs.declared.transfer.Outcome.{Outcome}
use Rattle.engine.specs.declared.transfer.Outcome.TheVariants.{Goes, Completes, Fails}

-- a data command that has just issued, for so many blocks: its bytes are all owed, nothing is held, no line is in hand
abbrev pub issued : Way → Bool → ℕ → BlockCount → Dat
issued way counted size blocks =
    Runs
    (record {
      way = way;
      answered = false;
      counted = counted;
      size = size;
      left = blocks;
      owed = times blocks size;
      held = bytes 0;
      stage = Fetching;
    })

-- "A command keeps the settings it was issued with": only the counters and the stage move
abbrev pub with_counts : Transfer → BlockCount → ByteCount → ByteCount → Stage → Transfer
with_counts t left owed held stage =
    record {
      way = t.way;
      answered = t.answered;
      counted = t.counted;
      size = t.size;
      left = left;
      owed = owed;
      held = held;
      stage = stage;
    }

-- its response is in
abbrev pub respond_of : Transfer → Transfer
respond_of t =
    record {
      way = t.way;
      answered = true;
      counted = t.counted;
      size = t.size;
      left = t.left;
      owed = t.owed;
      held = t.held;
      stage = t.stage;
    }

-- ---- where a step leaves a transfer

-- "engine stopped well, nothing owed, no block left and the buffer empty", by the blocks left and the bytes held
unfoldable pub ending : ℕ → ℕ → Next
ending zero zero = Finish
ending zero (suc held) = Stop
ending (suc left) held = Stop

abbrev pub ending_of : BlockCount → ByteCount → Next
ending_of left held = ending left.0 held.0

-- "A line done with End stops the engine; bytes still owed then are an error in state 00 with Mismatch.", by End and the bytes owed
unfoldable pub settled : Bool → ℕ → ℕ → ℕ → Next
settled false owed left held = Fetch
settled true zero left held = ending left held
settled true (suc owed) left held = Fail failure.Owing

abbrev pub settled_of : Bool → ByteCount → BlockCount → ByteCount → Next
settled_of last owed left held = settled last owed.0 left.0 held.0

-- the DAT side after it: complete, "DAT is then free"; an error "halts", and "Present State keeps its bits"
abbrev pub dat_of : Transfer → BlockCount → ByteCount → ByteCount → Next → Dat
dat_of t left owed held Fetch = Runs (with_counts t left owed held Fetching)
dat_of t left owed held (Move hand) = Runs (with_counts t left owed held (Moving hand))
dat_of t left owed held Stop = Runs (with_counts t left owed held Stopped)
dat_of t left owed held Finish = Free
dat_of t left owed held (Fail f) = Halted t.way

-- what it tells: Transfer Complete, or an error and its 054h byte
abbrev pub outcome_of : Next → Outcome
outcome_of Fetch = Goes
outcome_of (Move hand) = Goes
outcome_of Stop = Goes
outcome_of Finish = Completes
outcome_of (Fail f) = Fails f

-- a running transfer
abbrev pub runs_of : Dat → Bool
runs_of Free = false
runs_of (Busy answered) = false
runs_of (Runs t) = true
runs_of Stuck = false
runs_of (Halted way) = false
