-- Single words: which bits each stores, the rules of 029h and 02Ch, Present State, 0FCh. Assumes nothing: these are definitions.
use Rattle.std.specs.Prelude.{ℕ, ◌+◌, ◌*◌, ◌%◌, Bool, true, false, cond, ◌&&◌, eqb}
use Rattle.std.specs.Int.Bits.{bit_and, bit_or}
use Rattle.terms.specs.Flag.{unit_of}
use Rattle.registers.specs.Bits.{field, bit, without, put}
use Rattle.registers.specs.Place.{guarded}
use Rattle.registers.specs.declared.place.Edit.{Edit}
use Rattle.registers.specs.declared.word.Use.{Use}
use Rattle.registers.specs.declared.word.Use.TheVariants.{Free, Busy, Write, Read}
use Rattle.registers.specs.declared.word.Facts.{Facts}

-- a word takes the bits of the written bytes that it stores; "Reserved or read-only bits ... ignore writes"
abbrev pub stored : ℕ → Edit → ℕ → ℕ
stored mask e old = put old e.lanes (bit_and e.bits mask)

-- "Stored: 000h; ... 008h; ... 058h-05Fh"
abbrev pub whole_bits : ℕ
whole_bits = field 31 0

-- "004h bits 14-0; 006h"
abbrev pub block_bits : ℕ
block_bits = field 14 0 + field 31 16

-- "00Ch bits 0, 1, 2, 4, 5; 00Eh bits 13-3 and 1-0"
abbrev pub order_bits : ℕ
order_bits = bit 0 + bit 1 + bit 2 + bit 4 + bit 5 + field 29 19 + field 17 16

-- "028h bits 4-0; 02Bh bits 2-0"; "029h: bits 3-1 stored; bit 0"
abbrev pub host_bits : ℕ
host_bits = field 4 0 + field 11 9 + bit 8 + field 26 24

-- "02Ch: bits 0, 2, 15-8"; "02Eh bits 3-0"
abbrev pub clock_bits : ℕ
clock_bits = bit 0 + bit 2 + field 15 8 + field 19 16

-- "058h-05Fh, with 058h bits 1-0 read as 0"
abbrev pub low_bits : ℕ
low_bits = field 31 2

-- Command Inhibit (DAT): "the DAT side is in use or halted"
abbrev pub in_use : Use → Bool
in_use Free = false
in_use Busy = true
in_use Write = true
in_use Read = true

-- 2: "write wholly inside 004h-007h or 00Ch-00Dh while Command Inhibit (DAT) is 1"
abbrev pub inhibits : Use → ℕ → ℕ → Bool
inhibits dat offset width = in_use dat && guarded offset width

-- "if DAT is inhibited the mode half keeps its old value"
abbrev pub mode_kept : Bool → Edit → Edit
mode_kept inhibited e = cond inhibited (record { lanes = without e.lanes (field 15 0); bits = without e.bits (field 15 0) }) e

abbrev pub order_after : Bool → Edit → ℕ → ℕ
order_after inhibited e old = stored order_bits (mode_kept inhibited e) old

-- "bit ... stays 1 only with" other bits and a card in: judged as it is written, by the bits of that write
unfoldable pub stays : Bool → ℕ → ℕ → ℕ → ℕ
stays card needs one bits = cond (card && eqb (bit_and bits needs) needs) bits (without bits one)

-- "029h: ... bit 0 stays 1 only with a card in and bits 3-1 = 111b."
abbrev pub host_after : Bool → Edit → ℕ → ℕ
host_after card e old = put old e.lanes (stays card (field 11 9) (bit 8) (bit_and e.bits host_bits))

-- "02Ch: ... bit 2 stays 1 only with bit 0 and a card in."
abbrev pub clock_after : Bool → Edit → ℕ → ℕ
clock_after card e old = put old e.lanes (stays card (bit 0) (bit 2) (bit_and e.bits clock_bits))

-- "02Ch: ... bit 1 equals bit 0"
abbrev pub shown_clock : ℕ → ℕ
shown_clock clock = bit_or clock (2 * (clock % 2))

-- "bits 1 and 2 the DAT side is in use or halted; bit 8 that use is a write; bit 9 a read"
abbrev pub use_bits : Use → ℕ
use_bits Free = 0
use_bits Busy = field 2 1
use_bits Write = field 2 1 + bit 8
use_bits Read = field 2 1 + bit 9

-- "Present State 024h: bit 0 a command waits or is halted; ...; bits 16 and 18 card in; bits 17, 19-24 always 1."
abbrev pub present_of : Facts → ℕ
present_of f = bit 17 + field 24 19 + bit 0 * unit_of f.command + use_bits f.dat + (bit 16 + bit 18) * unit_of f.card

-- "0FEh reads 0001h, 0FCh bit 0 is the line"
abbrev pub version_of : Bool → ℕ
version_of line = bit 16 + unit_of line
