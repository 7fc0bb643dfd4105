-- The slot: its registers, its card, the command side and the DAT side (01 "The controller we show"). Assumes nothing: these are definitions.
use Rattle.std.specs.Prelude.{ℕ, List, Bool, true, false, cond, Result, Ok, Err}
use Rattle.terms.specs.Answers.{Answer}
use Rattle.registers.specs.Block as block
use Rattle.registers.specs.Interrupt.{event_set, raised, line_of}
use Rattle.registers.specs.declared.block.Registers.{Registers}
use Rattle.registers.specs.declared.interrupt.Event.{Event}
use Rattle.registers.specs.declared.word.Use.{Use}
use Rattle.registers.specs.declared.word.Use.TheVariants as used
use Rattle.registers.specs.declared.word.Facts.{Facts}
use Rattle.engine.specs.Transfer as transfer
use Rattle.engine.specs.declared.transfer.Way.{Way}
use Rattle.engine.specs.declared.transfer.Way.TheVariants.{Read, Write}
use Rattle.engine.specs.declared.transfer.Dat.{Dat}
use Rattle.engine.specs.declared.transfer.Dat.TheVariants as dat
use Rattle.controller.specs.declared.slot.Command.{Command}
use Rattle.controller.specs.declared.slot.Command.TheVariants as command
use Rattle.controller.specs.declared.slot.Slot.{Slot}
use Rattle.controller.specs.declared.slot.Done.{Done}
use Rattle.terms.specs.declared.Refusal.{Refusal}

-- what an entry gives: the answer, and the slot after it
pub record Stepped : Type 0 where
  pub answer : Answer
  pub slot : Slot

-- at start: no card, nothing waits, the DAT side is free
abbrev pub power_on : Slot
power_on = record { registers = block.power_on; card = false; level = false; command = command.Idle; dat = dat.Free }

-- other registers and other sides; the card and its level stay
abbrev pub with_sides : Slot → Registers → Command → Dat → Slot
with_sides s r c d = record { registers = r; card = s.card; level = s.level; command = c; dat = d }

-- the same as the program gives it: a refusal gives no slot, since it leaves the one that there was
abbrev pub done_by : Answer → Slot → Result Done Refusal
done_by (Ok value) s = Ok (record { value = value; slot = s })
done_by (Err refusal) s = Err refusal

abbrev pub done_of : Stepped → Result Done Refusal
done_of z = done_by z.answer z.slot

-- with the buffer or the room after it, and with the buffer and the memory
abbrev pub done_with : Stepped × List ℕ → Result Done Refusal × List ℕ
done_with z = (done_of z.0, z.1)

abbrev pub done_over : Stepped × List ℕ × List ℕ → Result Done Refusal × List ℕ × List ℕ
done_over z = (done_of z.0, z.1, z.2)

-- an entry's answer and the slot after it
abbrev pub stepped_as : Answer → Slot → Stepped
stepped_as a s = record { answer = a; slot = s }

-- ---- what Present State shows

abbrev pub way_used : Way → Use
way_used Read = used.Read
way_used Write = used.Write

-- "bits 1 and 2 the DAT side is in use or halted; bit 8 that use is a write; bit 9 a read"
abbrev pub use_of : Dat → Use
use_of dat.Free = used.Free
use_of (dat.Busy answered) = used.Busy
use_of (dat.Runs t) = way_used t.way
use_of dat.Stuck = used.Busy
use_of (dat.Halted way) = way_used way

-- "bit 0 a command waits or is halted": Command Inhibit (CMD)
abbrev pub occupied : Command → Bool
occupied command.Idle = false
occupied (command.Waits w) = true
occupied command.Halted = true

-- what the register block is told
abbrev pub facts_of : Slot → Facts
facts_of s = record { command = occupied s.command; dat = use_of s.dat; card = s.card; level = s.level }

-- "The line is up exactly when ..."
abbrev pub line_now : Slot → Bool
line_now s = line_of s.level s.registers.interrupts

-- ---- halting: "only a reset frees it; Present State keeps its bits"

abbrev pub halted_command : Command → Command
halted_command command.Idle = command.Idle
halted_command (command.Waits w) = command.Halted
halted_command command.Halted = command.Halted

abbrev pub halted_dat : Dat → Dat
halted_dat dat.Free = dat.Free
halted_dat (dat.Busy answered) = dat.Stuck
halted_dat (dat.Runs t) = dat.Halted t.way
halted_dat dat.Stuck = dat.Stuck
halted_dat (dat.Halted way) = dat.Halted way

-- "the command and its own data or busy": the use whose response is awaited is that command's own, and no other is
abbrev pub awaited_halts : Dat → Dat
awaited_halts dat.Free = dat.Free
awaited_halts (dat.Busy answered) = cond answered (dat.Busy true) dat.Stuck
awaited_halts (dat.Runs t) = cond t.answered (dat.Runs t) (dat.Halted t.way)
awaited_halts dat.Stuck = dat.Stuck
awaited_halts (dat.Halted way) = dat.Halted way

-- its response is in
abbrev pub answered_dat : Dat → Dat
answered_dat dat.Free = dat.Free
answered_dat (dat.Busy answered) = dat.Busy true
answered_dat (dat.Runs t) = dat.Runs (transfer.respond_of t)
answered_dat dat.Stuck = dat.Stuck
answered_dat (dat.Halted way) = dat.Halted way

-- ---- an event, raised in the register block
abbrev pub raised_at : Event → Registers → Registers
raised_at e r = block.with_interrupts r (raised (event_set e) r.interrupts)
