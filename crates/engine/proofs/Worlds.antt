-- A run as it stands: the world that a transfer's state shows, and what the steps do to such a world. Assumes nothing.
use Prim.Native.Nat.{ℕ, min, ◌+◌, ◌≤◌, ◌<◌}
use native.Mathlib.Nat.{zero-add}
use native.Mathlib.Omega.{arith}
use mathlib.Core.Path.{◌≡◌, refl}
use mathlib.Core.List.{List}
use mathlib.Core.Bool.{Bool, false, cond}
use lib.ListN.{length}
use lib.Dec.{eqb, ltb}
use borrow.Author.Tests.{le-ltb, le-leb, eq-eqb, ne_eqb}
use Rattle.terms.specs.Counts.{bytes, blocks}
use Rattle.table.specs.Memory.{memory_limit}
use Rattle.table.specs.Trace.{ring_of}
use Rattle.engine.specs.Transfer.{with_counts, dat_of, outcome_of}
use Rattle.engine.specs.Buffer.{block_of, ready_of}
use Rattle.engine.specs.Turn.{refused_as, answered_of, carry_of, moved_of, moving_of, staged_of, turn_of}
use Rattle.engine.specs.Block.{kept_as, may_give, gave_of, give_of, may_take, took_of, take_of}
use Rattle.terms.specs.Answers.{is_done}
use Rattle.engine.specs.Run.{World, told_of, after_turn, after_block}
use Rattle.engine.proofs.Names.{BlockCount, ByteCount, Answer, NotYet, OutOfTurn, WrongLength, Way, Stage, Fetching, Moving, Stopped, Transfer, Dat, in_hand, Err}
use Rattle.engine.proofs.Names.{Runs, Next, Fetch, Move, Stop, Finish, Fail, Outcome, Goes, Completes, Fails, Turned}
use Rattle.engine.proofs.Invariant.{Now}
use Rattle.engine.proofs.Passes.{phase_of}

-- ---- the world of a state

-- "A command keeps the settings it was issued with"
abbrev pub settings : Way → Bool → Bool → ℕ → Transfer
settings way answered counted size =
    record { way = way; answered = answered; counted = counted; size = size; left = blocks 0; owed = bytes 0; held = bytes 0; stage = Fetching }

-- a running transfer, by its state and its stage
abbrev pub running : Way → Bool → ℕ → Now → Stage → Transfer
running way counted size s stage =
    with_counts (settings way s.answered counted size) (blocks s.cargo.left) (bytes s.cargo.owed) (bytes (length s.cargo.held)) stage

-- a world, by how the DAT side stands and the end that was told
abbrev pub world_with : Dat → Outcome → Now → List ℕ → World
world_with dat told s x =
    record {
      dat = dat;
      table = s.table;
      told = told;
      buffer = x;
      memory = s.cargo.memory;
      passed = s.cargo.passed;
      rings = s.rings;
      turns = s.turns;
      steps = s.steps;
    }

-- with a buffer, by where the transfer is: this tells both how the DAT side stands and the end
abbrev pub world : Way → Bool → ℕ → Now → List ℕ → Next → World
world way counted size s x st =
    world_with
    (dat_of (settings way s.answered counted size) (blocks s.cargo.left) (bytes s.cargo.owed) (bytes (length s.cargo.held)) st)
    (outcome_of st) s x

-- while it runs
abbrev pub runs : Way → Bool → ℕ → Now → List ℕ → Stage → World
runs way counted size s x stage = world_with (Runs (running way counted size s stage)) Goes s x

-- it is the world of where the transfer then is
pub runs_is : (way : Way) (counted : Bool) (size : ℕ) (s : Now) (x : List ℕ) (stage : Stage)
    → runs way counted size s x stage ≡ world way counted size s x (phase_of stage)
runs_is way counted size s x Fetching = refl
runs_is way counted size s x (Moving d) = refl
runs_is way counted size s x Stopped = refl

-- only the settings of a transfer go on
pub dat_counts : (t : Transfer) (left : BlockCount) (owed held : ByteCount) (stage : Stage) (left' : BlockCount) (owed' held' : ByteCount) (st : Next)
    → dat_of (with_counts t left owed held stage) left' owed' held' st ≡ dat_of t left' owed' held' st
dat_counts t left owed held stage left' owed' held' Fetch = refl
dat_counts t left owed held stage left' owed' held' (Move d) = refl
dat_counts t left owed held stage left' owed' held' Stop = refl
dat_counts t left owed held stage left' owed' held' Finish = refl
dat_counts t left owed held stage left' owed' held' (Fail state) = refl

-- ---- what is refused changes nothing

pub told_goes : (o : Outcome) → told_of o Goes ≡ o
told_goes Goes = refl
told_goes Completes = refl
told_goes (Fails state) = refl

-- "All but 0 ... change nothing."
pub turn_refused : (w : World) (a : Answer) → is_done a ≡ false → after_turn w (refused_as w.dat w.table a, w.buffer, w.memory) ≡ w
unfolding ring_of
turn_refused w a e = simp (e, told_goes, zero-add)

pub block_refused : (w : World) (a : Answer) (block : List ℕ) → is_done a ≡ false → after_block w (kept_as w.dat a) w.buffer block ≡ w
block_refused w a block e = simp (e, told_goes)

-- ---- the clauses of a turn and of the block events, by what the tests say

-- 11 is for lent memory over the limit
pub turn_small : (d : Dat) (table : ℕ) (x mem : List ℕ) → length mem ≤ memory_limit → turn_of d table x mem ≡ staged_of d table x mem
turn_small d table x mem h = simp (le-ltb memory_limit (length mem) h)

module _ (t : Transfer) (table : ℕ) (x mem : List ℕ) where
  -- its response is in, or 9: "its response awaited"
  pub answered_is : (a b : Bool) (done : Turned × List ℕ × List ℕ) → a ≡ b → answered_of a t table x mem done ≡ answered_of b t table x mem done
  answered_is a b done e = rw e

  module _ (rest : ByteCount) (at : ℕ) (last int : Bool) (ready : ℕ) (is : ready_of t.way t.size (length x) t.held ≡ bytes ready) where
    -- 9: "a move due with the buffer full (write) or empty (read)"
    pub waits_is : ready ≡ 0 → moving_of t table (in_hand rest at last int) x mem ≡ (refused_as (Runs t) table (Err NotYet), x, mem)
    unfolding moving_of
    waits_is none = simp (is, eq-eqb ready 0 none)

    -- "the smaller of the line's rest and the buffer's room (write) or content (read)"
    pub moves_is : 0 < ready → at + min rest.0 ready ≤ length mem
        → moving_of t table (in_hand rest at last int) x mem
        ≡ moved_of t table (in_hand rest at last int) (bytes (min rest.0 ready)) (carry_of t.way t x mem at (bytes (min rest.0 ready)))
    unfolding moving_of
    moves_is some fits = simp (is, ne_eqb ready 0 (λ e. omega arith), le-leb (at + min rest.0 ready) (length mem) fits)

module _ (t : Transfer) (x block : List ℕ) where
  -- "7 before 8"
  pub give_is : (may full : Bool) → may_give t (length x) ≡ may → eqb (length block) (block_of t.size (length x)).0 ≡ full
      → give_of t x block ≡ cond may (cond full (gave_of t x block) (kept_as (Runs t) (Err WrongLength), x)) (kept_as (Runs t) (Err OutOfTurn), x)
  unfolding give_of
  give_is may full e f = simp (e, f)

  pub take_is : (may short : Bool) → may_take t (length x) ≡ may → ltb (length block) (block_of t.size (length x)).0 ≡ short
      → take_of t x block ≡ cond may (cond short (kept_as (Runs t) (Err WrongLength), block) (took_of t x block)) (kept_as (Runs t) (Err OutOfTurn), block)
  unfolding take_of
  take_is may short e f = simp (e, f)
