-- Register accesses of the slot: reads, writes, and what the resets do to its two sides (01 "Registers"). Assumes nothing: these are definitions.
use Rattle.std.specs.Prelude.{ℕ, cond, ◌||◌, Option, Some, None, Ok, Err}
use Rattle.terms.specs.declared.Refusal.TheVariants.{NoPlace, DatInhibited}
use Rattle.registers.specs.Place.{target_of, issues}
use Rattle.registers.specs.Word.{inhibits}
use Rattle.registers.specs.Reset.{resets_of}
use Rattle.registers.specs.Access as block
use Rattle.registers.specs.declared.place.Edit.{Edit}
use Rattle.registers.specs.declared.place.Word.{Word}
use Rattle.registers.specs.declared.place.Target.{Target}
use Rattle.registers.specs.declared.reset.Resets.{Resets}
use Rattle.engine.specs.declared.transfer.Dat.{Dat}
use Rattle.engine.specs.declared.transfer.Dat.TheVariants.{Free}
use Rattle.controller.specs.Slot.{Stepped, use_of, facts_of, awaited_halts, with_sides, stepped_as}
use Rattle.controller.specs.Command.{command_step}
use Rattle.controller.specs.declared.slot.Command.{Command}
use Rattle.controller.specs.declared.slot.Command.TheVariants.{Idle}
use Rattle.controller.specs.declared.slot.Slot.{Slot}

-- "Bit 0: all to power-on"; "Bit 1: drops the command"
abbrev pub command_reset : Resets → Command → Command
command_reset which c = cond (which.all || which.command) Idle c

-- "Bit 2: drops transfer, busy and buffer, frees DAT"; bit 1: "data or busy waiting on that response becomes halted"
abbrev pub dat_reset : Resets → Dat → Dat
dat_reset which d = cond (which.all || which.«data») Free (cond which.command (awaited_halts d) d)

-- the slot after a write that stores, acknowledges, enables, forces or resets
abbrev pub store_of : Slot → Word → Edit → Resets → Slot
store_of s w e which =
    with_sides s (block.take_of w e (facts_of s) s.registers) (command_reset which s.command) (dat_reset which s.dat)

-- no read has an effect
abbrev pub read_of : Slot → ℕ → ℕ → Stepped
read_of s offset width = stepped_as (block.read_of s.registers (facts_of s) offset width) s

-- "1 first"; "Byte 00Fh issues."; 2; done
abbrev pub write_at : Option Target → Slot → ℕ → ℕ → Stepped
write_at None s offset width = stepped_as (Err NoPlace) s
write_at (Some t) s offset width =
    cond (issues offset width) (command_step s t.edit)
    (cond (inhibits (use_of s.dat) offset width) (stepped_as (Err DatInhibited) s)
    (stepped_as (Ok 0) (store_of s t.word t.edit (resets_of offset width t.edit))))

abbrev pub write_of : Slot → ℕ → ℕ → ℕ → Stepped
write_of s offset width value = write_at (target_of offset width value) s offset width
