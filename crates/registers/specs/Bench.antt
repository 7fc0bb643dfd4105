-- Bench values of the block: what document 01 says in numbers of single registers (P1 and P2 stand with P3 to P10, in the controller). Assumes nothing: these are definitions.
use Rattle.std.specs.Prelude.{ℕ, Bool, true, false, List, [], ◌∷◌}
use Rattle.terms.specs.Bench.{Row}
use Rattle.terms.specs.Answers.{number_of, value_of}
use Rattle.terms.specs.Answers.{Answer}
use Rattle.registers.specs.Block.{power_on}
use Rattle.registers.specs.Access.{read_of, write_of}
use Rattle.registers.specs.declared.word.Use.TheVariants.{Free, Write}
use Rattle.registers.specs.declared.word.Facts.{Facts}

-- nothing goes on; a card is in or not
abbrev pub quiet : Bool → Facts
quiet card = record { command = false; dat = Free; card = card; level = false }

-- a command waits and a write uses DAT, as where the worked example reads 024h
abbrev pub writing : Facts
writing = record { command = true; dat = Write; card = true; level = false }

abbrev pub answers : Answer → ℕ → ℕ → Row
answers a number value = record { given = number_of a ∷ value_of a ∷ []; said = number ∷ value ∷ [] }

-- a read at power-on
abbrev pub reads : Facts → ℕ → ℕ → ℕ → ℕ → Row
reads f offset width number value = answers (read_of power_on f offset width) number value

-- a read after a write of the same place, from power-on
abbrev pub rereads : Bool → ℕ → ℕ → ℕ → ℕ → Row
rereads card offset width value shown =
    answers (read_of (write_of power_on (quiet card) offset width value).registers (quiet card) offset width) 0 shown

abbrev pub register_rows : List Row
register_rows =
    reads writing 0x024 4 0 0x01FF0107  -- the worked example, step 9
    ∷ reads (quiet false) 0x040 4 0 0x010832B2
    ∷ reads (quiet false) 0x044 4 0 0
    ∷ reads (quiet false) 0x048 4 0 0
    ∷ reads (quiet false) 0x0FE 2 0 0x0001
    ∷ reads (quiet false) 0x0FF 2 1 0  -- "offset 0FFh width 2 gives 1; 0FCh width 4 is done"
    ∷ reads (quiet false) 0x0FC 4 0 0x00010000
    ∷ rereads true 0x029 1 0x0F 0x0F  -- power with voltage and card; without the card; without the voltage
    ∷ rereads false 0x029 1 0x0F 0x0E
    ∷ rereads true 0x029 1 0x0D 0x0C
    ∷ rereads true 0x02C 1 0x04 0x00  -- the clock without its bit 0; with it; without the card
    ∷ rereads true 0x02C 1 0x05 0x07
    ∷ rereads false 0x02C 1 0x05 0x03
    ∷ rereads true 0x004 4 0xFFFFFFFF 0xFFFF7FFF  -- reserved bits
    ∷ rereads true 0x00C 4 0xFFFFFFFF 0x3FFB0037
    ∷ rereads true 0x058 4 0xFFFFFFFF 0xFFFFFFFC
    ∷ rereads true 0x052 2 0xFFFF 0
    ∷ []
