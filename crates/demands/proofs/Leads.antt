-- Where a turn or a block leads the DAT side, and what it tells of the end. Assumes nothing.
use Prim.Native.Nat.{ℕ}
use mathlib.Core.Path.{◌≡◌, refl}
use mathlib.Core.List.{List}
use mathlib.Core.Bool.{Bool, true, false}
use lib.ListN.{length}
use lib.Dec.{eqb, ltb}
use Rattle.terms.specs.Counts.{fewer, less, least}
use Rattle.terms.specs.Answers.{Answer, is_done}
use Rattle.std.specs.Prelude.{Ok, Err}
use Rattle.terms.specs.declared.Refusal.TheVariants.{NotYet}
use Rattle.terms.specs.declared.BlockCount.{BlockCount}
use Rattle.terms.specs.declared.ByteCount.{ByteCount}
use Rattle.table.specs.Memory.{too_large, in_memory}
use Rattle.table.specs.Fetch.{fetch_of}
use Rattle.table.specs.declared.fetch.Failure.{Failure}
use Rattle.engine.specs.Transfer.{with_counts, dat_of, outcome_of}
use Rattle.engine.specs.Buffer.{block_of, held_of, ready_of}
use Rattle.engine.specs.Turn.{Turned, refused_as, seen_next, onward_of, hand_after, carry_of, moving_of, answered_of, running_of, staged_of, turn_of}
use Rattle.engine.specs.Block.{Passed, kept_as, may_give, give_of, given_of, may_take, emptied_of, take_of, taken_of}
use Rattle.engine.specs.declared.transfer.Way.{Way}
use Rattle.engine.specs.declared.transfer.Stage.{Stage}
use Rattle.engine.specs.declared.transfer.Stage.TheVariants.{Fetching, Moving, Stopped}
use Rattle.engine.specs.declared.transfer.Transfer.{Transfer}
use Rattle.engine.specs.declared.transfer.Dat.{Dat}
use Rattle.engine.specs.declared.transfer.Dat.TheVariants.{Free, Runs, Halted}
use Rattle.engine.specs.declared.transfer.Next.{Next}
use Rattle.engine.specs.declared.transfer.Next.TheVariants.{Fetch, Move, Stop, Finish, Fail}
use Rattle.engine.specs.declared.transfer.Outcome.TheVariants.{Goes, Completes, Fails}
use Rattle.controller.proofs.Causes.{by_test}
use Rattle.demands.proofs.Sides.{by_dat}

-- it is refused; or the transfer goes on, completes, or fails, with what this tells
pub data Leads : Dat → Passed → Type 0 where
  stays : {d : Dat} {a : Answer} → is_done a ≡ false → Leads d (kept_as d a)
  goes : {t : Transfer} {n : ℕ} {left : BlockCount} {owed held : ByteCount} {stage : Stage}
      → Leads (Runs t) (record { answer = Ok n; dat = Runs (with_counts t left owed held stage); outcome = Goes })
  completes : {t : Transfer} {n : ℕ} → Leads (Runs t) (record { answer = Ok n; dat = Free; outcome = Completes })
  fails : {t : Transfer} {n : ℕ} {way : Way} {f : Failure} → Leads (Runs t) (record { answer = Ok n; dat = Halted way; outcome = Fails f })

next_leads : (t : Transfer) (n : ℕ) (left : BlockCount) (owed held : ByteCount) (next : Next)
    → Leads (Runs t) (record { answer = Ok n; dat = dat_of t left owed held next; outcome = outcome_of next })
next_leads t n left owed held Fetch = goes
next_leads t n left owed held (Move hand) = goes
next_leads t n left owed held Stop = goes
next_leads t n left owed held Finish = completes
next_leads t n left owed held (Fail f) = fails

-- a turn as a block event is told: its answer, the DAT side after it and the end
abbrev pub ended : Turned → Passed
ended r = record { answer = r.answer; dat = r.dat; outcome = r.outcome }

-- a turn
pub turn_leads : (d : Dat) (table : ℕ) (x mem : List ℕ) → Leads d (ended (turn_of d table x mem).0)
unfolding staged_of running_of moving_of
turn_leads d table x mem = by_test (P d) (too_large mem) (λ l. stays refl) (λ l. staged d)
  where
    P : Dat → Turned × List ℕ × List ℕ → Type 0
    P d r = Leads d (ended r.0)

    asked : (Q : Turned × List ℕ × List ℕ → Type 0) (t : Transfer) (b : Bool) {r : Turned × List ℕ × List ℕ}
        → Q (refused_as (Runs t) table (Err NotYet), x, mem) → Q r → Q (answered_of b t table x mem r)
    asked Q t true n q = q
    asked Q t false n q = n

    going : (t : Transfer) (s : Stage) → P (Runs t) (running_of s t table x mem)
    going t Stopped = stays refl
    going t Fetching =
        asked (P (Runs t)) t t.answered (stays refl)
        (next_leads t _ _ _ _ (seen_next (fetch_of mem table t.owed) t.owed t.left (held_of t.size (length x) t.held)))
    going t (Moving hand) =
        let ready = ready_of t.way t.size (length x) t.held in
        let n = least hand.rest ready in
        let still = onward_of (hand_after hand n) (less t.owed n) t.left (carry_of t.way t x mem hand.at n).0 in
        asked (P (Runs t)) t t.answered (stays refl)
        (by_test (P (Runs t)) (eqb ready.0 0) (λ z. stays refl)
        (λ z. by_test (P (Runs t)) (in_memory (length mem) hand.at n.0) (λ i. next_leads t _ _ _ _ still) (λ i. fails)))

    staged : (d : Dat) → P d (staged_of d table x mem)
    staged = by_dat (λ d. P d (staged_of d table x mem)) (stays refl) (λ a. stays refl) (stays refl) (λ way. stays refl) (λ t. going t t.stage)

abbrev Led : Dat → Passed × List ℕ → Type 0
Led d r = Leads d r.0

-- a block given
pub given_leads : (d : Dat) (x block : List ℕ) → Led d (given_of d x block)
unfolding give_of
given_leads d x block =
    by_dat (λ d. Led d (given_of d x block)) (stays refl) (λ a. stays refl) (stays refl) (λ way. stays refl)
    (λ t. by_test (Led (Runs t)) (may_give t (length x))
    (λ m. by_test (Led (Runs t)) (eqb (length block) (block_of t.size (length x)).0) (λ q. goes) (λ q. stays refl)) (λ m. stays refl)) d

-- a block taken
pub taken_leads : (d : Dat) (x room : List ℕ) → Led d (taken_of d x room)
unfolding take_of
taken_leads d x room =
    by_dat (λ d. Led d (taken_of d x room)) (stays refl) (λ a. stays refl) (stays refl) (λ way. stays refl)
    (λ t. by_test (Led (Runs t)) (may_take t (length x))
    (λ m. by_test (Led (Runs t)) (ltb (length room) (block_of t.size (length x)).0) (λ q. stays refl)
    (λ q. next_leads t _ _ _ _ (emptied_of t.stage (fewer t.left)))) (λ m. stays refl)) d
