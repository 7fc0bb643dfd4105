-- "Interrupts": status, enables and signal enables as sets of bits, bit k of 030h at k and bit k of 032h at 16 + k. Assumes nothing: these are
-- definitions.
use Rattle.std.specs.Prelude.{ℕ, ◌+◌, ◌^◌, Bool, cond, not, eqb, ltb}
use Rattle.std.specs.Int.Bits.{bit_and, bit_or}
use Rattle.registers.specs.Bits.{field, bit, without, put}
use Rattle.registers.specs.declared.interrupt.Event.{Event}
use Rattle.registers.specs.declared.interrupt.Event.TheVariants.{CommandComplete, TransferComplete, DmaInterrupt, CardInsertion, CardRemoval, CommandTimeout, CommandCrc, CommandEndBit, CommandIndex, DataTimeout, DataCrc, DataEndBit, AdmaError}
use Rattle.registers.specs.declared.interrupt.Interrupts.{Interrupts}
use Rattle.registers.specs.declared.place.Edit.{Edit}

-- the bit of an event, as 000 has it in 030h and 032h
abbrev pub event_bit : Event → ℕ
event_bit CommandComplete = 0
event_bit TransferComplete = 1
event_bit DmaInterrupt = 3
event_bit CardInsertion = 6
event_bit CardRemoval = 7
event_bit CommandTimeout = 16 + 0
event_bit CommandCrc = 16 + 1
event_bit CommandEndBit = 16 + 2
event_bit CommandIndex = 16 + 3
event_bit DataTimeout = 16 + 4
event_bit DataCrc = 16 + 5
event_bit DataEndBit = 16 + 6
event_bit AdmaError = 16 + 9

abbrev pub event_set : Event → ℕ
event_set event = 2 ^ event_bit event

abbrev pub with_status : Interrupts → ℕ → Interrupts
with_status i status = record { status = status; enabled = i.enabled; signal = i.signal }

-- "An event sets its status bit only if its status enable is 1"
abbrev pub raised : ℕ → Interrupts → Interrupts
raised bits i = with_status i (bit_or i.status (bit_and bits i.enabled))

-- "Writing 1 clears, 0 keeps."
abbrev pub acknowledged : ℕ → Interrupts → Interrupts
acknowledged bits i = with_status i (without i.status bits)

-- "034h and 038h bits 8-0; 036h and 03Ah bits 9-0"
abbrev pub carried : ℕ
carried = field 8 0 + field 25 16

-- the enables after a write to them
abbrev pub choice : ℕ → Edit → ℕ
choice old e = put old e.lanes (bit_and e.bits carried)

-- "clearing an enable clears the bit"
abbrev pub enabling : Edit → Interrupts → Interrupts
enabling e i =
    let now = choice i.enabled e in
    record { status = without i.status (without i.enabled now); enabled = now; signal = i.signal }

abbrev pub signalling : Edit → Interrupts → Interrupts
signalling e i = record { status = i.status; enabled = i.enabled; signal = choice i.signal e }

-- "052h ... its bits 9-0", where 032h has them
abbrev pub forcible : ℕ
forcible = field 25 16

-- "set the error status bits that are enabled"
abbrev pub forced : Edit → Interrupts → Interrupts
forced e i = raised (bit_and e.bits forcible) i

-- "Card Interrupt (030h bit 8) is the card's level while enabled"
abbrev pub card_bit : Bool → Interrupts → ℕ
card_bit level i = cond level (bit_and i.enabled (bit 8)) 0

-- "bit 15 is 1 while any error bit stands"
abbrev pub error_bit : Interrupts → ℕ
error_bit i = cond (ltb (field 15 0) i.status) (bit 15) 0

-- 030h and 032h as they read
unfoldable pub shown_status : Bool → Interrupts → ℕ
shown_status level i = bit_or (bit_or i.status (card_bit level i)) (error_bit i)

-- "030h bits 8-0 or 032h"
abbrev pub counted : ℕ
counted = field 8 0 + field 31 16

-- "The line is up exactly when some bit of 030h bits 8-0 or 032h stands with its signal enable 1."
unfoldable pub line_of : Bool → Interrupts → Bool
line_of level i = not (eqb (bit_and (bit_and (shown_status level i) i.signal) counted) 0)
