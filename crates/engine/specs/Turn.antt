-- A turn: it fetches a line, or moves bytes of the line in hand (01 "Lines and turns"). Assumes nothing: these are definitions.
use Rattle.std.specs.Prelude.{ℕ, zero, suc, ◌+◌, ◌-◌, List, Bool, true, false, cond, length, drop, eqb, Result, Ok, Err}
use Rattle.std.proofs.Math.Seq.{paste}
use Rattle.terms.specs.Counts.{bytes, more, less, least}
use Rattle.terms.specs.Answers.{Answer}
use Rattle.terms.specs.declared.Refusal.{Refusal}
use Rattle.terms.specs.declared.Refusal.TheVariants.{NotYet, NoTransfer, MemoryTooLarge}
use Rattle.terms.specs.declared.BlockCount.{BlockCount}
use Rattle.terms.specs.declared.ByteCount.{ByteCount}
use Rattle.table.specs.Memory.{in_memory, index_of, too_large}
use Rattle.table.specs.Fetch.{fetch_of}
use Rattle.table.specs.declared.fetch.Failure.TheVariants as failure
use Rattle.table.specs.declared.fetch.Hand.{Hand}
use Rattle.table.specs.declared.fetch.Fetched.{Fetched}
use Rattle.table.specs.declared.fetch.Fetched.TheVariants.{Fault, Step, Data}
use Rattle.engine.specs.Transfer.{settled, dat_of, outcome_of}
use Rattle.engine.specs.Buffer.{block_of, held_of, ready_of}
use Rattle.engine.specs.declared.transfer.Way.{Way}
use Rattle.engine.specs.declared.transfer.Way.TheVariants.{Read, Write}
use Rattle.engine.specs.declared.transfer.Stage.{Stage}
use Rattle.engine.specs.declared.transfer.Stage.TheVariants.{Fetching, Moving, Stopped}
use Rattle.engine.specs.declared.transfer.Transfer.{Transfer}
use Rattle.engine.specs.declared.transfer.Dat.{Dat}
use Rattle.engine.specs.declared.transfer.Dat.TheVariants.{Free, Busy, Runs, Stuck, Halted}
use Rattle.engine.specs.declared.transfer.Next.{Next}
use Rattle.engine.specs.declared.transfer.Next.TheVariants.{Move, Fail}
use Rattle.engine.specs.declared.transfer.Outcome.{Outcome}
use Rattle.engine.specs.declared.transfer.Outcome.TheVariants.{Goes}
use Rattle.engine.specs.declared.turn.Turn.{Turn}

-- what a turn gives: the answer, the DAT side and 058h after it, whether DMA Interrupt is raised, and the end told
pub record Turned : Type 0 where
  pub answer : Answer
  pub dat : Dat
  pub table : ℕ
  pub int : Bool
  pub outcome : Outcome

abbrev pub turn_by : Answer → Turned → Result Turn Refusal
turn_by (Ok count) z = Ok (record { count = count; dat = z.dat; table = z.table; int = z.int; outcome = z.outcome })
turn_by (Err refusal) z = Err refusal

-- the same as the program gives it: what a refusal leaves is what there was
abbrev pub turn_given : Turned → Result Turn Refusal
turn_given z = turn_by z.answer z

-- with the buffer and the memory after it
abbrev pub turned_with : Turned × List ℕ × List ℕ → Result Turn Refusal × List ℕ × List ℕ
turned_with r = (turn_given r.0, r.1, r.2)

-- "All but 0 ... change nothing."
abbrev pub refused_as : Dat → ℕ → Answer → Turned
refused_as d table answer = record { answer = answer; dat = d; table = table; int = false; outcome = Goes }

-- a turn that is done: the bytes still owed and those held, how many it moved, 058h, whether a line with Int is done, and where it leaves the
-- transfer
abbrev pub turned_as : Transfer → ByteCount → ByteCount → ByteCount → ℕ → Bool → Next → Turned
turned_as t owed held count table int next =
    record { answer = Ok count.0; dat = dat_of t t.left owed held next; table = table; int = int; outcome = outcome_of next }

-- ---- "With no line in hand a turn fetches, be the buffer full or empty"

-- 058h after the fetch
abbrev pub seen_table : Fetched → ℕ
seen_table (Fault f next) = next
seen_table (Step next last int) = next
seen_table (Data next hand) = next

-- "A line done with Int sets DMA Interrupt": "Other lines are done in the fetch."
abbrev pub seen_int : Fetched → Bool
seen_int (Fault f next) = false
seen_int (Step next last int) = int
seen_int (Data next hand) = false

unfoldable pub seen : Fetched → ℕ → ℕ → ℕ → Next
seen (Fault f next) owed left held = Fail f
seen (Step next last int) owed left held = settled last owed left held
seen (Data next hand) owed left held = Move hand

abbrev pub seen_next : Fetched → ByteCount → BlockCount → ByteCount → Next
seen_next f owed left held = seen f owed.0 left.0 held.0

abbrev pub fetched_of : Transfer → ℕ → Fetched → Turned
fetched_of t lent f =
    turned_as t t.owed t.held (bytes 0) (seen_table f) (seen_int f) (seen_next f t.owed t.left (held_of t.size lent t.held))

-- ---- "with a Tran line in hand it moves"

-- what is left of the line, or the line is done
unfoldable pub further : ℕ → ℕ → Bool → Bool → ℕ → ℕ → ℕ → Next
further zero at last int owed left held = settled last owed left held
further (suc rest) at last int owed left held = Move (record { rest = bytes (suc rest); at = at; last = last; int = int })

abbrev pub onward_of : Hand → ByteCount → BlockCount → ByteCount → Next
onward_of hand owed left held = further hand.rest.0 hand.at hand.last hand.int owed.0 left.0 held.0

-- "A line done with Int sets DMA Interrupt."
unfoldable pub done_rest : ℕ → Bool → Bool
done_rest zero int = int
done_rest (suc rest) int = false

abbrev pub done_int : ByteCount → Bool → Bool
done_int rest int = done_rest rest.0 int

-- a write: bytes from an address go behind those held; what it then holds, and the buffer
abbrev pub load_of : Transfer → List ℕ → List ℕ → ℕ → ByteCount → ByteCount × List ℕ
load_of t buffer mem at count =
    let held = held_of t.size (length buffer) t.held in
    (more held count, paste buffer held.0 (drop (index_of at) mem) count.0)

-- a read: the first bytes held go to an address (a block given lies at the front, so the bytes held are its last ones); what it then holds, and memory
abbrev pub unload_of : Transfer → List ℕ → List ℕ → ℕ → ByteCount → ByteCount × List ℕ
unload_of t buffer mem at count =
    let held = held_of t.size (length buffer) t.held in
    (less held count, paste mem (index_of at) (drop ((block_of t.size (length buffer)).0 - held.0) buffer) count.0)

-- what the buffer then holds, the buffer and memory
abbrev pub carry_of : Way → Transfer → List ℕ → List ℕ → ℕ → ByteCount → ByteCount × List ℕ × List ℕ
carry_of Write t buffer mem at count = let r = load_of t buffer mem at count in (r.0, r.1, mem)
carry_of Read t buffer mem at count = let r = unload_of t buffer mem at count in (r.0, buffer, r.1)

-- the line in hand once so many of its bytes are moved
abbrev pub hand_after : Hand → ByteCount → Hand
hand_after hand count = record { rest = less hand.rest count; at = hand.at + count.0; last = hand.last; int = hand.int }

-- bytes of the line in hand are moved, and are owed no longer
abbrev pub moved_of : Transfer → ℕ → Hand → ByteCount → ByteCount × List ℕ × List ℕ → Turned × List ℕ × List ℕ
moved_of t table hand count c =
    let owed = less t.owed count in
    let still = hand_after hand count in (
      turned_as t owed c.0 count table (done_int still.rest still.int) (onward_of still owed t.left c.0),
      c.1,
      c.2,
    )

-- "if the memory lent now is too short for it, state 11 and nothing moves"
abbrev pub reach_of : Transfer → ℕ → Hand → List ℕ → List ℕ → ByteCount → Turned × List ℕ × List ℕ
reach_of t table hand buffer mem count =
    cond (in_memory (length mem) hand.at count.0) (moved_of t table hand count (carry_of t.way t buffer mem hand.at count))
    (turned_as t t.owed t.held (bytes 0) table false (Fail failure.Beyond), buffer, mem)

-- "Move: the smaller of the line's rest and the buffer's room (write) or content (read)"; 9: "a move due with the buffer full (write) or empty (read)"
unfoldable pub moving_of : Transfer → ℕ → Hand → List ℕ → List ℕ → Turned × List ℕ × List ℕ
moving_of t table hand buffer mem =
    let ready = ready_of t.way t.size (length buffer) t.held in
    cond (eqb ready.0 0) (refused_as (Runs t) table (Err NotYet), buffer, mem) (reach_of t table hand buffer mem (least hand.rest ready))

-- ---- the turn

-- 9: "its response awaited"
abbrev pub answered_of : Bool → Transfer → ℕ → List ℕ → List ℕ → Turned × List ℕ × List ℕ → Turned × List ℕ × List ℕ
answered_of true t table buffer mem done = done
answered_of false t table buffer mem done = (refused_as (Runs t) table (Err NotYet), buffer, mem)

-- a running transfer; 10: "engine stopped"
unfoldable pub running_of : Stage → Transfer → ℕ → List ℕ → List ℕ → Turned × List ℕ × List ℕ
running_of Stopped t table buffer mem = (refused_as (Runs t) table (Err NoTransfer), buffer, mem)
running_of Fetching t table buffer mem = answered_of t.answered t table buffer mem (fetched_of t (length buffer) (fetch_of mem table t.owed), buffer, mem)
running_of (Moving hand) t table buffer mem = answered_of t.answered t table buffer mem (moving_of t table hand buffer mem)

-- 10: "no transfer, a halted one"
unfoldable pub staged_of : Dat → ℕ → List ℕ → List ℕ → Turned × List ℕ × List ℕ
staged_of Free table buffer mem = (refused_as Free table (Err NoTransfer), buffer, mem)
staged_of (Busy answered) table buffer mem = (refused_as (Busy answered) table (Err NoTransfer), buffer, mem)
staged_of (Runs t) table buffer mem = running_of t.stage t table buffer mem
staged_of Stuck table buffer mem = (refused_as Stuck table (Err NoTransfer), buffer, mem)
staged_of (Halted way) table buffer mem = (refused_as (Halted way) table (Err NoTransfer), buffer, mem)

-- "11, then 10, then 9"
abbrev pub turn_of : Dat → ℕ → List ℕ → List ℕ → Turned × List ℕ × List ℕ
turn_of d table buffer mem = cond (too_large mem) (refused_as d table (Err MemoryTooLarge), buffer, mem) (staged_of d table buffer mem)
