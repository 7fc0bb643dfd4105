-- "02Fh reads 0", and what its bits do to the block; the rest of their effect is the controller's. Assumes nothing: these are definitions.
use Rattle.std.specs.Prelude.{ℕ, false, cond}
use Rattle.registers.specs.Bits.{bit_of}
use Rattle.registers.specs.Place.{touches}
use Rattle.registers.specs.Interrupt.{event_set, acknowledged}
use Rattle.registers.specs.Block.{power_on, with_interrupts}
use Rattle.registers.specs.declared.place.Edit.{Edit}
use Rattle.registers.specs.declared.block.Registers.{Registers}
use Rattle.registers.specs.declared.interrupt.Event.TheVariants.{CommandComplete, TransferComplete}
use Rattle.registers.specs.declared.reset.Resets.{Resets}

-- bits 0, 1 and 2 of 02Fh, the highest byte of its word
abbrev pub reset_bits : Edit → Resets
reset_bits e = record { all = bit_of e.bits 24; command = bit_of e.bits 25; «data» = bit_of e.bits 26 }

abbrev pub no_resets : Resets
no_resets = record { all = false; command = false; «data» = false }

-- what an access resets: none where it does not touch 02Fh
abbrev pub resets_of : ℕ → ℕ → Edit → Resets
resets_of offset width e = cond (touches 0x02F offset width) (reset_bits e) no_resets

-- "Bit 1: ... clears Command Complete"
abbrev pub reset_command : Registers → Registers
reset_command r = with_interrupts r (acknowledged (event_set CommandComplete) r.interrupts)

-- "Bit 2: ... clears Transfer Complete."
abbrev pub reset_data : Registers → Registers
reset_data r = with_interrupts r (acknowledged (event_set TransferComplete) r.interrupts)

-- "Bit 0: all to power-on, except card presence and its interrupt level", which are no part of the block; several at once: as bit 0 alone, or both
-- others
unfoldable pub reset_with : Resets → Registers → Registers
reset_with which r =
    cond which.all power_on
    (cond which.command
    (cond which.«data» (reset_data (reset_command r)) (reset_command r))
    (cond which.«data» (reset_data r) r))
