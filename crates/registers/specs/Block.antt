-- The register block: its value at power-on, one register changed, and what a command is judged by. Assumes nothing: these are definitions.
use Rattle.std.specs.Prelude.{ℕ, ◌/◌, ◌%◌, Bool, eqb}
use Rattle.terms.specs.Counts.{blocks}
use Rattle.terms.specs.declared.BlockCount.{BlockCount}
use Rattle.registers.specs.Bits.{bit, without}
use Rattle.registers.specs.declared.block.Setup.{Setup}
use Rattle.registers.specs.declared.block.Reply.{Reply}
use Rattle.registers.specs.declared.block.Control.{Control}
use Rattle.registers.specs.declared.block.Adma.{Adma}
use Rattle.registers.specs.declared.block.Registers.{Registers}
use Rattle.registers.specs.declared.interrupt.Interrupts.{Interrupts}

-- "The power-on value of the whole register block has one name and is used at start and at reset."
abbrev pub power_on : Registers
power_on =
    record {
      setup = record { system = 0; block = 0; argument = 0; order = 0 };
      reply = record { first = 0; second = 0; third = 0; fourth = 0 };
      control = record { host = 0; clock = 0 };
      interrupts = record { status = 0; enabled = 0; signal = 0 };
      adma = record { fault = 0; low = 0; high = 0 };
    }

-- ---- one group changed

abbrev pub with_setup : Registers → Setup → Registers
with_setup r s = record { setup = s; reply = r.reply; control = r.control; interrupts = r.interrupts; adma = r.adma }

abbrev pub with_reply : Registers → Reply → Registers
with_reply r a = record { setup = r.setup; reply = a; control = r.control; interrupts = r.interrupts; adma = r.adma }

abbrev pub with_control : Registers → Control → Registers
with_control r k = record { setup = r.setup; reply = r.reply; control = k; interrupts = r.interrupts; adma = r.adma }

abbrev pub with_interrupts : Registers → Interrupts → Registers
with_interrupts r i = record { setup = r.setup; reply = r.reply; control = r.control; interrupts = i; adma = r.adma }

abbrev pub with_adma : Registers → Adma → Registers
with_adma r a = record { setup = r.setup; reply = r.reply; control = r.control; interrupts = r.interrupts; adma = a }

-- ---- one word changed

abbrev pub with_system : Registers → ℕ → Registers
with_system r n =
    let s = r.setup in
    with_setup r (record { system = n; block = s.block; argument = s.argument; order = s.order })

abbrev pub with_block : Registers → ℕ → Registers
with_block r n =
    let s = r.setup in
    with_setup r (record { system = s.system; block = n; argument = s.argument; order = s.order })

abbrev pub with_argument : Registers → ℕ → Registers
with_argument r n =
    let s = r.setup in
    with_setup r (record { system = s.system; block = s.block; argument = n; order = s.order })

abbrev pub with_order : Registers → ℕ → Registers
with_order r n =
    let s = r.setup in
    with_setup r (record { system = s.system; block = s.block; argument = s.argument; order = n })

abbrev pub with_host : Registers → ℕ → Registers
with_host r n = with_control r (record { host = n; clock = r.control.clock })

abbrev pub with_clock : Registers → ℕ → Registers
with_clock r n = with_control r (record { host = r.control.host; clock = n })

abbrev pub with_fault : Registers → ℕ → Registers
with_fault r n = with_adma r (record { fault = n; low = r.adma.low; high = r.adma.high })

abbrev pub with_low : Registers → ℕ → Registers
with_low r n = with_adma r (record { fault = r.adma.fault; low = n; high = r.adma.high })

abbrev pub with_high : Registers → ℕ → Registers
with_high r n = with_adma r (record { fault = r.adma.fault; low = r.adma.low; high = n })

-- ---- what a command is judged by

-- "block size ... (12-bit field)"
abbrev pub block_size : Registers → ℕ
block_size r = r.setup.block % 4096

-- Block Count, 006h
abbrev pub block_count : Registers → BlockCount
block_count r = blocks (r.setup.block / 65536)

-- Transfer Mode, 00Ch
abbrev pub mode_of : Registers → ℕ
mode_of r = r.setup.order % 65536

-- Command, 00Eh
abbrev pub command_of : Registers → ℕ
command_of r = r.setup.order / 65536

-- "DMA Select (028h bits 4-3)"
abbrev pub dma_select : Registers → ℕ
dma_select r = r.control.host / 8 % 4

-- SD Bus Power, 029h bit 0
abbrev pub bus_power : Registers → Bool
bus_power r = eqb (r.control.host / 256 % 2) 1

-- SD Clock Enable, 02Ch bit 2
abbrev pub bus_clock : Registers → Bool
bus_clock r = eqb (r.control.clock / 4 % 2) 1

-- "Out ... clears SD Bus Power, SD Clock Enable"
abbrev pub unplugged : Registers → Registers
unplugged r = with_clock (with_host r (without r.control.host (bit 8))) (without r.control.clock (bit 2))
