-- The block events: a block given by the card, a block taken by it (01 "Commands and card events"). Assumes nothing: these are definitions.
use Rattle.std.specs.Prelude.{ℕ, List, Bool, true, false, cond, ◌&&◌, length, ltb, eqb, Result, Ok, Err}
use Rattle.std.proofs.Math.Seq.{paste}
use Rattle.terms.specs.Counts.{bytes, fewer}
use Rattle.terms.specs.Answers.{Answer}
use Rattle.terms.specs.declared.Refusal.{Refusal}
use Rattle.terms.specs.declared.Refusal.TheVariants.{OutOfTurn, WrongLength}
use Rattle.terms.specs.declared.BlockCount.{BlockCount}
use Rattle.engine.specs.Transfer.{with_counts, ending_of, dat_of, outcome_of}
use Rattle.engine.specs.Buffer.{block_of, held_of}
use Rattle.engine.specs.declared.transfer.Way.{Way}
use Rattle.engine.specs.declared.transfer.Way.TheVariants.{Read, Write}
use Rattle.engine.specs.declared.transfer.Stage.{Stage}
use Rattle.engine.specs.declared.transfer.Stage.TheVariants.{Fetching, Moving, Stopped}
use Rattle.engine.specs.declared.transfer.Transfer.{Transfer}
use Rattle.engine.specs.declared.transfer.Dat.{Dat}
use Rattle.engine.specs.declared.transfer.Dat.TheVariants.{Free, Busy, Runs, Stuck, Halted}
use Rattle.engine.specs.declared.transfer.Next.{Next}
use Rattle.engine.specs.declared.transfer.Next.TheVariants.{Fetch, Move}
use Rattle.engine.specs.declared.transfer.Outcome.{Outcome}
use Rattle.engine.specs.declared.transfer.Outcome.TheVariants.{Goes}
use Rattle.engine.specs.declared.block.Pass.{Pass}

-- what a block event gives: the answer, the DAT side after it, and the end told
pub record Passed : Type 0 where
  pub answer : Answer
  pub dat : Dat
  pub outcome : Outcome

abbrev pub pass_by : Answer → Passed → Result Pass Refusal
pass_by (Ok count) p = Ok (record { count = count; dat = p.dat; outcome = p.outcome })
pass_by (Err refusal) p = Err refusal

-- the same as the program gives it: what a refusal leaves is what there was
abbrev pub pass_of : Passed → Result Pass Refusal
pass_of p = pass_by p.answer p

-- with the buffer or the room after it
abbrev pub passed_with : Passed × List ℕ → Result Pass Refusal × List ℕ
passed_with g = (pass_of g.0, g.1)

-- "All but 0 ... change nothing."
abbrev pub kept_as : Dat → Answer → Passed
kept_as d answer = record { answer = answer; dat = d; outcome = Goes }

abbrev pub reads_of : Way → Bool
reads_of Read = true
reads_of Write = false

abbrev pub writes_of : Way → Bool
writes_of Read = false
writes_of Write = true

-- ---- "Block given: running read, its response in, buffer empty, blocks left."

unfoldable pub may_give : Transfer → ℕ → Bool
may_give t lent = reads_of t.way && (t.answered && (eqb (held_of t.size lent t.held).0 0 && ltb 0 t.left.0))

-- the block fills the buffer from the front, and one block less is left
abbrev pub gave_of : Transfer → List ℕ → List ℕ → Passed × List ℕ
gave_of t buffer block =
    let full = block_of t.size (length buffer) in (
      record { answer = Ok full.0; dat = Runs (with_counts t (fewer t.left) t.owed full t.stage); outcome = Goes },
      paste buffer 0 block full.0,
    )

-- "7 before 8"; 8: "block given of length other than the block size"
unfoldable pub give_of : Transfer → List ℕ → List ℕ → Passed × List ℕ
give_of t buffer block =
    cond (may_give t (length buffer))
    (cond (eqb (length block) (block_of t.size (length buffer)).0) (gave_of t buffer block) (kept_as (Runs t) (Err WrongLength), buffer))
    (kept_as (Runs t) (Err OutOfTurn), buffer)

abbrev pub given_of : Dat → List ℕ → List ℕ → Passed × List ℕ
given_of Free buffer block = (kept_as Free (Err OutOfTurn), buffer)
given_of (Busy answered) buffer block = (kept_as (Busy answered) (Err OutOfTurn), buffer)
given_of (Runs t) buffer block = give_of t buffer block
given_of Stuck buffer block = (kept_as Stuck (Err OutOfTurn), buffer)
given_of (Halted way) buffer block = (kept_as (Halted way) (Err OutOfTurn), buffer)

-- ---- "Block taken: running write, buffer full; it fills the first bytes of the lent room."

unfoldable pub may_take : Transfer → ℕ → Bool
may_take t lent = writes_of t.way && eqb (held_of t.size lent t.held).0 (block_of t.size lent).0

-- where the transfer is once the buffer is empty: a stopped engine with no block left is complete. "nothing owed" is not asked again: only `settled`
-- with nothing owed stops an engine
abbrev pub emptied_of : Stage → BlockCount → Next
emptied_of Fetching left = Fetch
emptied_of (Moving hand) left = Move hand
emptied_of Stopped left = ending_of left (bytes 0)

-- the block goes to the room's first bytes, and one block less is left
abbrev pub took_of : Transfer → List ℕ → List ℕ → Passed × List ℕ
took_of t buffer room =
    let full = block_of t.size (length buffer) in
    let next = emptied_of t.stage (fewer t.left) in (
      record { answer = Ok full.0; dat = dat_of t (fewer t.left) t.owed (bytes 0) next; outcome = outcome_of next },
      paste room 0 buffer full.0,
    )

-- "7 before 8"; 8: "room for a taken block below it"
unfoldable pub take_of : Transfer → List ℕ → List ℕ → Passed × List ℕ
take_of t buffer room =
    cond (may_take t (length buffer))
    (cond (ltb (length room) (block_of t.size (length buffer)).0) (kept_as (Runs t) (Err WrongLength), room) (took_of t buffer room))
    (kept_as (Runs t) (Err OutOfTurn), room)

abbrev pub taken_of : Dat → List ℕ → List ℕ → Passed × List ℕ
taken_of Free buffer room = (kept_as Free (Err OutOfTurn), room)
taken_of (Busy answered) buffer room = (kept_as (Busy answered) (Err OutOfTurn), room)
taken_of (Runs t) buffer room = take_of t buffer room
taken_of Stuck buffer room = (kept_as Stuck (Err OutOfTurn), room)
taken_of (Halted way) buffer room = (kept_as (Halted way) (Err OutOfTurn), room)
