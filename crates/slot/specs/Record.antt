-- The record and the controller's typed slot are two spellings of one state. Every record spells a slot; the record of a slot spells that
-- slot. Assumes nothing: these are definitions.
use Rattle.std.specs.Prelude.{ℕ, Bool, true, false, cond, not, eqb}
use Rattle.terms.specs.Counts.{blocks, bytes}
use Rattle.engine.specs.declared.transfer.Way.{Way}
use Rattle.engine.specs.declared.transfer.Way.TheVariants.{Read, Write}
use Rattle.engine.specs.declared.transfer.Stage.{Stage}
use Rattle.engine.specs.declared.transfer.Stage.TheVariants.{Fetching, Moving, Stopped}
use Rattle.engine.specs.declared.transfer.Transfer.{Transfer}
use Rattle.engine.specs.declared.transfer.Dat.{Dat}
use Rattle.engine.specs.declared.transfer.Dat.TheVariants as dat
use Rattle.controller.specs.Command.{kind_of}
use Rattle.controller.specs.declared.slot.Kind.{Kind}
use Rattle.controller.specs.declared.slot.Kind.TheVariants.{Silent, Long, Short, ShortBusy}
use Rattle.controller.specs.declared.slot.Command.{Command}
use Rattle.controller.specs.declared.slot.Command.TheVariants as command
use Rattle.controller.specs.declared.slot.Slot.{Slot}
use Rattle.slot.specs.declared.record.CommandPart.{CommandPart}
use Rattle.slot.specs.declared.record.StagePart.{StagePart}
use Rattle.slot.specs.declared.record.DatPart.{DatPart}
use Rattle.slot.specs.declared.record.Record.{Record}

-- ---- the slot that a record spells

-- a flag is down at 0 and up at any other number
abbrev pub flag_at : ℕ → Bool
flag_at n = not (eqb n 0)

abbrev pub way_at : ℕ → Way
way_at n = cond (eqb n 0) Read Write

abbrev pub command_at : CommandPart → Command
command_at p =
    cond (eqb p.tag 0) command.Idle
    (cond (eqb p.tag 1) (command.Waits (record { kind = kind_of p.kind; crc = flag_at p.crc; index = flag_at p.index })) command.Halted)

abbrev pub stage_at : StagePart → Stage
stage_at p =
    cond (eqb p.tag 0) Fetching
    (cond (eqb p.tag 1) (Moving (record { rest = bytes p.rest; at = p.at; last = flag_at p.last; int = flag_at p.int })) Stopped)

abbrev pub transfer_at : DatPart → Transfer
transfer_at p =
    record {
      way = way_at p.way;
      answered = flag_at p.answered;
      counted = flag_at p.counted;
      size = p.size;
      left = blocks p.left;
      owed = bytes p.owed;
      held = bytes p.held;
      stage = stage_at p.stage;
    }

abbrev pub dat_at : DatPart → Dat
dat_at p =
    cond (eqb p.tag 0) dat.Free
    (cond (eqb p.tag 1) (dat.Busy (flag_at p.answered))
    (cond (eqb p.tag 2) (dat.Runs (transfer_at p))
    (cond (eqb p.tag 3) dat.Stuck (dat.Halted (way_at p.way)))))

abbrev pub slot_of : Record → Slot
slot_of r =
    record {
      registers = r.registers;
      card = flag_at r.card;
      level = flag_at r.level;
      command = command_at r.command;
      dat = dat_at r.dat;
    }

-- ---- the record that spells a slot: what tells nothing is 0

abbrev pub unit_of : Bool → ℕ
unit_of true = 1
unit_of false = 0

abbrev pub kind_tag : Kind → ℕ
kind_tag Silent = 0
kind_tag Long = 1
kind_tag Short = 2
kind_tag ShortBusy = 3

abbrev pub way_tag : Way → ℕ
way_tag Read = 0
way_tag Write = 1

abbrev pub command_part : Command → CommandPart
command_part command.Idle = record { tag = 0; kind = 0; crc = 0; index = 0 }
command_part (command.Waits w) = record { tag = 1; kind = kind_tag w.kind; crc = unit_of w.crc; index = unit_of w.index }
command_part command.Halted = record { tag = 2; kind = 0; crc = 0; index = 0 }

abbrev pub stage_part : Stage → StagePart
stage_part Fetching = record { tag = 0; last = 0; int = 0; rest = 0; at = 0 }
stage_part (Moving h) = record { tag = 1; last = unit_of h.last; int = unit_of h.int; rest = h.rest.0; at = h.at }
stage_part Stopped = record { tag = 2; last = 0; int = 0; rest = 0; at = 0 }

-- a DAT side without a running transfer
abbrev pub rest_part : ℕ → ℕ → ℕ → DatPart
rest_part tag way answered =
    record {
      tag = tag;
      way = way;
      answered = answered;
      counted = 0;
      size = 0;
      left = 0;
      owed = 0;
      held = 0;
      stage = stage_part Fetching;
    }

abbrev pub transfer_part : Transfer → DatPart
transfer_part t =
    record {
      tag = 2;
      way = way_tag t.way;
      answered = unit_of t.answered;
      counted = unit_of t.counted;
      size = t.size;
      left = t.left.0;
      owed = t.owed.0;
      held = t.held.0;
      stage = stage_part t.stage;
    }

abbrev pub dat_part : Dat → DatPart
dat_part dat.Free = rest_part 0 0 0
dat_part (dat.Busy answered) = rest_part 1 0 (unit_of answered)
dat_part (dat.Runs t) = transfer_part t
dat_part dat.Stuck = rest_part 3 0 0
dat_part (dat.Halted way) = rest_part 4 (way_tag way) 0

abbrev pub record_of : Slot → Record
record_of s =
    record {
      registers = s.registers;
      card = unit_of s.card;
      level = unit_of s.level;
      command = command_part s.command;
      dat = dat_part s.dat;
    }
