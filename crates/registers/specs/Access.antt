-- An access: what each word shows and what a write makes of it, the answer to a read and to a write. Assumes nothing: these are definitions.
use Rattle.std.specs.Prelude.{ℕ, Bool, cond, Option, Some, None, Ok, Err}
use Rattle.terms.specs.Answers.{Answer}
use Rattle.terms.specs.declared.Refusal.TheVariants.{NoPlace, DatInhibited}
use Rattle.registers.specs.Place.{Place, place_of, target_of, cut_of}
use Rattle.registers.specs.Interrupt.{acknowledged, enabling, signalling, forced, shown_status, line_of}
use Rattle.registers.specs.Word.{stored, whole_bits, block_bits, low_bits, in_use, inhibits, order_after, host_after, clock_after, shown_clock, present_of, version_of}
use Rattle.registers.specs.Block.{with_system, with_block, with_argument, with_order, with_host, with_clock, with_interrupts, with_low, with_high}
use Rattle.registers.specs.Reset.{reset_bits, reset_with}
use Rattle.registers.specs.declared.place.Taker.{Taker}
use Rattle.registers.specs.declared.place.Taker.TheVariants.{System, Block, Argument, Order, Host, Clock, Status, Enabled, Signal, Force, Low, High}
use Rattle.registers.specs.declared.place.Teller.{Teller}
use Rattle.registers.specs.declared.place.Teller.TheVariants.{First, Second, Third, Fourth, Present, Ability, Fault, Version, Nothing}
use Rattle.registers.specs.declared.place.Word.{Word}
use Rattle.registers.specs.declared.place.Word.TheVariants.{Takes, Tells}
use Rattle.registers.specs.declared.place.Edit.{Edit}
use Rattle.registers.specs.declared.place.Target.{Target}
use Rattle.registers.specs.declared.word.Facts.{Facts}
use Rattle.registers.specs.declared.block.Registers.{Registers}

-- ---- what a word shows

-- a word that takes writes; "052h reads 0", and so does 02Fh, which no bit of `clock` holds
abbrev pub taker_shown : Taker → Bool → Registers → ℕ
taker_shown System level r = r.setup.system
taker_shown Block level r = r.setup.block
taker_shown Argument level r = r.setup.argument
taker_shown Order level r = r.setup.order
taker_shown Host level r = r.control.host
taker_shown Clock level r = shown_clock r.control.clock
taker_shown Status level r = shown_status level r.interrupts
taker_shown Enabled level r = r.interrupts.enabled
taker_shown Signal level r = r.interrupts.signal
taker_shown Force level r = 0
taker_shown Low level r = r.adma.low
taker_shown High level r = r.adma.high

-- "040h reads 010832B2h"
abbrev pub capabilities : ℕ
capabilities = 0x010832B2

-- a word that ignores them: "040h reads 010832B2h, 044h zero, 048h zero"; "unassigned bits read 0"
abbrev pub teller_shown : Teller → Facts → Registers → ℕ
teller_shown First f r = r.reply.first
teller_shown Second f r = r.reply.second
teller_shown Third f r = r.reply.third
teller_shown Fourth f r = r.reply.fourth
teller_shown Present f r = present_of f
teller_shown Ability f r = capabilities
teller_shown Fault f r = r.adma.fault
teller_shown Version f r = version_of (line_of f.level r.interrupts)
teller_shown Nothing f r = 0

unfoldable pub shown_of : Word → Facts → Registers → ℕ
shown_of (Takes w) f r = taker_shown w f.level r
shown_of (Tells w) f r = teller_shown w f r

-- ---- what a write makes of a word

-- "Stored: 000h; 004h bits 14-0; 006h; 008h; ... 058h-05Fh". 00Ch to 00Fh only store here: whether a command is issued is the controller's.
-- "Bytes of one access take effect in rising offset", so 02Fh resets after 02Ch to 02Eh have stored.
unfoldable pub take_from : Taker → Edit → Bool → Bool → Registers → Registers
take_from System e inhibited card r = with_system r (stored whole_bits e r.setup.system)
take_from Block e inhibited card r = with_block r (stored block_bits e r.setup.block)
take_from Argument e inhibited card r = with_argument r (stored whole_bits e r.setup.argument)
take_from Order e inhibited card r = with_order r (order_after inhibited e r.setup.order)
take_from Host e inhibited card r = with_host r (host_after card e r.control.host)
take_from Clock e inhibited card r = reset_with (reset_bits e) (with_clock r (clock_after card e r.control.clock))
take_from Status e inhibited card r = with_interrupts r (acknowledged e.bits r.interrupts)
take_from Enabled e inhibited card r = with_interrupts r (enabling e r.interrupts)
take_from Signal e inhibited card r = with_interrupts r (signalling e r.interrupts)
take_from Force e inhibited card r = with_interrupts r (forced e r.interrupts)
take_from Low e inhibited card r = with_low r (stored low_bits e r.adma.low)
take_from High e inhibited card r = with_high r (stored whole_bits e r.adma.high)

-- "Reserved or read-only bits and uncarried offsets ignore writes with answer 0"
unfoldable pub take_of : Word → Edit → Facts → Registers → Registers
take_of (Takes w) e f r = take_from w e (in_use f.dat) f.card r
take_of (Tells w) e f r = r

-- ---- the answers

abbrev pub read_at : Option Place → Facts → Registers → Answer
read_at None f r = Err NoPlace
read_at (Some p) f r = Ok (cut_of (shown_of p.word f r) p.lane p.width)

abbrev pub read_of : Registers → Facts → ℕ → ℕ → Answer
read_of r f offset width = read_at (place_of offset width) f r

-- the answer to a write that issues no command, and the block after it: the controller's write is this one (`plain_write` in
-- controller/proofs/Plain)
pub record Written : Type 0 where
  pub answer : Answer
  pub registers : Registers

abbrev pub written_as : Answer → Registers → Written
written_as a r = record { answer = a; registers = r }

-- "1 first", then 2
abbrev pub write_at : Option Target → Bool → Facts → Registers → Written
write_at None inhibited f r = written_as (Err NoPlace) r
write_at (Some t) inhibited f r = cond inhibited (written_as (Err DatInhibited) r) (written_as (Ok 0) (take_of t.word t.edit f r))

abbrev pub write_of : Registers → Facts → ℕ → ℕ → ℕ → Written
write_of r f offset width value = write_at (target_of offset width value) (inhibits f.dat offset width) f r
