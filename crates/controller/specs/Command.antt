-- Commands: what one asks for, whether it is refused, and what issuing it does (01 "Commands and card events"). Assumes nothing: these are
-- definitions.
use Rattle.std.specs.Prelude.{ℕ, ◌/◌, ◌%◌, Bool, true, false, cond, not, ◌&&◌, ◌||◌, eqb, ltb}
use Rattle.terms.specs.Counts.{blocks}
use Rattle.terms.specs.Answers.{is_done}
use Rattle.terms.specs.declared.BlockCount.{BlockCount}
use Rattle.terms.specs.Answers.{Answer}
use Rattle.std.specs.Prelude.{Ok, Err}
use Rattle.terms.specs.declared.Refusal.TheVariants.{CommandInhibited, DatInUse, Unpowered, NotCarried}
use Rattle.registers.specs.Word.{in_use}
use Rattle.registers.specs.Block.{block_size, block_count, mode_of, command_of, dma_select, bus_power, bus_clock}
use Rattle.registers.specs.Access.{take_of}
use Rattle.registers.specs.declared.block.Registers.{Registers}
use Rattle.registers.specs.declared.place.Edit.{Edit}
use Rattle.registers.specs.declared.place.Taker.TheVariants.{Order}
use Rattle.registers.specs.declared.place.Word.TheVariants.{Takes}
use Rattle.engine.specs.Transfer.{issued}
use Rattle.engine.specs.declared.transfer.Way.{Way}
use Rattle.engine.specs.declared.transfer.Way.TheVariants.{Read, Write}
use Rattle.engine.specs.declared.transfer.Dat.{Dat}
use Rattle.engine.specs.declared.transfer.Dat.TheVariants.{Busy}
use Rattle.controller.specs.Slot.{Stepped, use_of, occupied, facts_of, halted_dat, with_sides, stepped_as}
use Rattle.controller.specs.declared.slot.Kind.{Kind}
use Rattle.controller.specs.declared.slot.Kind.TheVariants.{Silent, Long, Short, ShortBusy}
use Rattle.controller.specs.declared.slot.Command.TheVariants.{Waits}
use Rattle.controller.specs.declared.slot.Slot.{Slot}
use Rattle.controller.specs.declared.command.Class.{Class}
use Rattle.controller.specs.declared.command.Class.TheVariants as class
use Rattle.controller.specs.declared.command.Request.{Request}

-- the response types 00b, 01b, 10b and 11b
abbrev pub kind_of : ℕ → Kind
kind_of n = cond (eqb n 0) Silent (cond (eqb n 1) Long (cond (eqb n 2) Short ShortBusy))

abbrev pub is_short : Kind → Bool
is_short Silent = false
is_short Long = false
is_short Short = true
is_short ShortBusy = false

abbrev pub is_busy : Kind → Bool
is_busy Silent = false
is_busy Long = false
is_busy Short = false
is_busy ShortBusy = true

-- the command types 00b, 01b, 10b and 11b
abbrev pub class_of : ℕ → Class
class_of n = cond (eqb n 0) class.Normal (cond (eqb n 1) class.Suspend (cond (eqb n 2) class.Resume class.Abort))

abbrev pub class_number : Class → ℕ
class_number class.Normal = 0
class_number class.Suspend = 1
class_number class.Resume = 2
class_number class.Abort = 3

-- is the bit of this weight 1?
abbrev pub on : ℕ → ℕ → Bool
on n weight = eqb (n / weight % 2) 1

-- What the registers ask for (000 2.2.5 and 2.2.6). Command, 00Eh: response type bits 1-0, CRC check bit 3, index check bit 4, data bit 5, command
-- type bits 7-6. Transfer Mode, 00Ch: DMA Enable bit 0, Block Count Enable bit 1, Auto CMD12 bit 2, read bit 4, Multi bit 5.
unfoldable pub request_of : Registers → Request
request_of r =
    record {
      waiting = record { kind = kind_of (command_of r % 4); crc = on (command_of r) 8; index = on (command_of r) 16 };
      «data» = on (command_of r) 32;
      class = class_of (command_of r / 64 % 4);
      dma = eqb (mode_of r % 2) 1;
      counts = on (mode_of r) 2;
      auto = on (mode_of r) 4;
      reads = on (mode_of r) 16;
      multi = on (mode_of r) 32;
      adma = eqb (dma_select r) 2;
      size = block_size r;
      count = block_count r;
    }

-- the command type 11b
abbrev pub is_abort : Request → Bool
is_abort q = eqb (class_number q.class) 3

-- "with data or response type 11b"
abbrev pub uses_dat : Request → Bool
uses_dat q = q.«data» || is_busy q.waiting.kind

-- "block size ... over 512"
abbrev pub largest_block : ℕ
largest_block = 512

-- "response type not 10b, DMA Enable 0, DMA Select (028h bits 4-3) not 10b, Auto CMD12 set, block size 0 or over 512 (12-bit field), Multi with
-- Block Count Enable 0 or count 0"
abbrev pub unfit_data : Request → Bool
unfit_data q =
    not (is_short q.waiting.kind) || not q.dma || not q.adma || q.auto || eqb q.size 0 || ltb largest_block q.size
    || q.multi && (not q.counts || eqb q.count.0 0)

-- 6: "command type 01b or 10b; Abort with data; data with any of" these
abbrev pub not_carried : Request → Bool
not_carried q = eqb (class_number q.class) 1 || eqb (class_number q.class) 2 || q.«data» && (is_abort q || unfit_data q)

-- "B is 1 without Multi ...; with Multi B is Block Count"
abbrev pub blocks_asked : Request → BlockCount
blocks_asked q = cond q.multi q.count (blocks 1)

abbrev pub way_asked : Request → Way
way_asked q = cond q.reads Read Write

-- "Issuing sets ... the DAT side for data or response type 11b."
abbrev pub ordinary_dat : Request → Dat → Dat
ordinary_dat q d = cond q.«data» (issued (way_asked q) q.multi q.size (blocks_asked q)) (cond (is_busy q.waiting.kind) (Busy false) d)

-- "Abort halts any DAT use and then has no busy of its own; with none, it is an ordinary command."
abbrev pub dat_issued : Request → Dat → Dat
dat_issued q d = cond (is_abort q && in_use (use_of d)) (halted_dat d) (ordinary_dat q d)

-- "Order: ... 3, 4, 5, 6": command inhibited; DAT in use; no clock or no power; a setting not carried
abbrev pub judge_of : Slot → Request → Bool → Answer
judge_of s q powered =
    cond (occupied s.command) (Err CommandInhibited)
    (cond (uses_dat q && not (is_abort q) && in_use (use_of s.dat)) (Err DatInUse)
    (cond powered (cond (not_carried q) (Err NotCarried) (Ok 0)) (Err Unpowered)))

-- "Issuing sets bit 0 of Present State, and the DAT side"; "A command keeps the settings it was issued with."
abbrev pub issue_of : Slot → Registers → Request → Slot
issue_of s r q = with_sides s r (Waits q.waiting) (dat_issued q s.dat)

-- 00Ch to 00Fh as they would stand: "sets Transfer Mode first; if DAT is inhibited the mode half keeps its old value and the command is judged by that"
abbrev pub would_be : Slot → Edit → Registers
would_be s e = take_of (Takes Order) e (facts_of s) s.registers

-- "A refused command stores no byte of its access."
abbrev pub judged : Slot → Registers → Request → Answer → Stepped
judged s r q a = cond (is_done a) (stepped_as a (issue_of s r q)) (stepped_as a s)

unfoldable pub command_step : Slot → Edit → Stepped
command_step s e =
    let r = would_be s e in
    judged s r (request_of r) (judge_of s (request_of r) (bus_clock r && bus_power r))
