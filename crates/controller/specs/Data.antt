-- The DAT side of the slot: blocks, busy over, data errors, turns, with their effects on the registers (01 "Commands and card events", "Lines and
-- turns"). Assumes nothing: these are definitions.
use Rattle.std.specs.Prelude.{ℕ, ◌-◌, ◌/◌, List, Bool, false, cond, ◌&&◌, eqb, ltb}
use Rattle.terms.specs.Answers.{is_done}
use Rattle.std.specs.Prelude.{Result, Ok, Err}
use Rattle.terms.specs.declared.Refusal.{Refusal}
use Rattle.terms.specs.declared.Refusal.TheVariants.{OutOfTurn}
use Rattle.registers.specs.Block.{with_block, with_fault, with_low}
use Rattle.registers.specs.declared.block.Registers.{Registers}
use Rattle.registers.specs.declared.interrupt.Event.{Event}
use Rattle.registers.specs.declared.interrupt.Event.TheVariants.{TransferComplete, DmaInterrupt, DataTimeout, DataCrc, DataEndBit, AdmaError}
use Rattle.table.specs.Fetch.{byte_of}
use Rattle.engine.specs.Turn as engine
use Rattle.engine.specs.Turn.{Turned}
use Rattle.engine.specs.Block as block
use Rattle.engine.specs.Block.{Passed}
use Rattle.engine.specs.declared.transfer.Dat.{Dat}
use Rattle.engine.specs.declared.transfer.Dat.TheVariants.{Free, Busy, Runs, Stuck, Halted}
use Rattle.engine.specs.declared.transfer.Outcome.{Outcome}
use Rattle.engine.specs.declared.transfer.Outcome.TheVariants.{Goes, Completes, Fails}
use Rattle.controller.specs.Slot.{Stepped, raised_at, with_sides, stepped_as}
use Rattle.controller.specs.declared.data.DataError.{DataError}
use Rattle.controller.specs.declared.data.DataError.TheVariants as error
use Rattle.controller.specs.declared.slot.Slot.{Slot}

-- ---- effects on the registers

-- does Block Count count the blocks of this use?
abbrev pub counts_of : Dat → Bool
counts_of Free = false
counts_of (Busy answered) = false
counts_of (Runs t) = t.counted
counts_of Stuck = false
counts_of (Halted way) = false

-- "Block Count, which falls by one per block given or taken"
abbrev pub fallen_block : ℕ → ℕ
fallen_block n = cond (eqb (n / 65536) 0) n (n - 65536)

abbrev pub counted_down : Dat → Registers → Registers
counted_down d r = cond (counts_of d) (with_block r (fallen_block r.setup.block)) r

-- "Transfer Complete comes in the step ..."; "An error sets 054h (state, Mismatch 4), error bit 9, and halts."
abbrev pub outcome_at : Outcome → Registers → Registers
outcome_at Goes r = r
outcome_at Completes r = raised_at TransferComplete r
outcome_at (Fails f) r = raised_at AdmaError (with_fault r (byte_of f))

-- "A line done with Int sets DMA Interrupt."
abbrev pub ring_at : Bool → Registers → Registers
ring_at int r = cond int (raised_at DmaInterrupt r) r

-- ---- blocks given and taken

abbrev pub passed_of : Slot → Dat → Outcome → Slot
passed_of s d outcome = with_sides s (outcome_at outcome (counted_down s.dat s.registers)) s.command d

abbrev pub passed_as : Slot → Passed → Stepped
passed_as s p = cond (is_done p.answer) (stepped_as p.answer (passed_of s p.dat p.outcome)) (stepped_as p.answer s)

abbrev pub given_of : Slot → List ℕ → List ℕ → Stepped × List ℕ
given_of s buffer bytes = let r = block.given_of s.dat buffer bytes in (passed_as s r.0, r.1)

abbrev pub taken_of : Slot → List ℕ → List ℕ → Stepped × List ℕ
taken_of s buffer room = let r = block.taken_of s.dat buffer room in (passed_as s r.0, r.1)

-- ---- busy over and data errors

abbrev pub raised_step : Slot → Dat → Event → Stepped
raised_step s d event = stepped_as (Ok 0) (with_sides s (raised_at event s.registers) s.command d)

-- "Busy over: busy, response in; Transfer Complete, DAT free."
abbrev pub busy_over_at : Dat → Slot → Stepped
busy_over_at Free s = stepped_as (Err OutOfTurn) s
busy_over_at (Busy answered) s = cond answered (raised_step s Free TransferComplete) (stepped_as (Err OutOfTurn) s)
busy_over_at (Runs t) s = stepped_as (Err OutOfTurn) s
busy_over_at Stuck s = stepped_as (Err OutOfTurn) s
busy_over_at (Halted way) s = stepped_as (Err OutOfTurn) s

unfoldable pub busy_over : Slot → Stepped
busy_over s = busy_over_at s.dat s

-- "0 timeout, 1 CRC, 2 end bit"; "sets error bit 4 to 6"
abbrev pub data_number : DataError → ℕ
data_number error.Timeout = 0
data_number error.Crc = 1
data_number error.EndBit = 2

-- "Over 2: out of turn."
abbrev pub data_error_of : ℕ → Result DataError Refusal
data_error_of n =
    cond (eqb n 0) (Ok error.Timeout) (cond (eqb n 1) (Ok error.Crc) (cond (eqb n 2) (Ok error.EndBit) (Err OutOfTurn)))

abbrev pub data_event : ℕ → Event
data_event n = cond (eqb n 0) DataTimeout (cond (eqb n 1) DataCrc DataEndBit)

-- "running transfer with response in (busy: 0 only)"; "Over 2: out of turn."
abbrev pub data_error_at : Dat → Slot → ℕ → Stepped
data_error_at Free s n = stepped_as (Err OutOfTurn) s
data_error_at (Busy answered) s n = cond (answered && eqb n 0) (raised_step s Stuck (data_event n)) (stepped_as (Err OutOfTurn) s)
data_error_at (Runs t) s n = cond (t.answered && ltb n 3) (raised_step s (Halted t.way) (data_event n)) (stepped_as (Err OutOfTurn) s)
data_error_at Stuck s n = stepped_as (Err OutOfTurn) s
data_error_at (Halted way) s n = stepped_as (Err OutOfTurn) s

unfoldable pub data_error : Slot → ℕ → Stepped
data_error s n = data_error_at s.dat s n

-- ---- turns

-- the registers after a turn: 058h, DMA Interrupt, the end; a refused turn leaves all as it was
abbrev pub turned_of : Slot → Turned → Stepped
turned_of s t =
    stepped_as t.answer (with_sides s (outcome_at t.outcome (ring_at t.int (with_low s.registers t.table))) s.command t.dat)

abbrev pub turn_of : Slot → List ℕ → List ℕ → Stepped × List ℕ × List ℕ
turn_of s buffer mem = let r = engine.turn_of s.dat s.registers.adma.low buffer mem in (turned_of s r.0, r.1, r.2)
