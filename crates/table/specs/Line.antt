-- A line of the table: its bytes within the lent memory, and what its fields say (000 section 1.13). Assumes nothing: these are definitions.
use Rattle.std.specs.Prelude.{ℕ, ◌+◌, ◌*◌, ◌/◌, ◌%◌, List, [], Bool, cond, length, get_or, take, drop, eqb}
use Rattle.terms.specs.Counts.{bytes}
use Rattle.table.specs.Memory.{in_memory, index_of}
use Rattle.table.specs.declared.line.Flags.{Flags}
use Rattle.table.specs.declared.line.Line.{Line}
use Rattle.table.specs.declared.line.Act.{Act}
use Rattle.table.specs.declared.line.Act.TheVariants.{Tran, Link, Other}

-- "its eight bytes"
abbrev pub line_size : ℕ
line_size = 8

-- "A line is shown as its eight bytes within the lent memory, not copied out; not all there, as the empty part."
abbrev pub line_bytes : List ℕ → ℕ → List ℕ
line_bytes mem at = cond (in_memory (length mem) at line_size) (take line_size (drop (index_of at) mem)) []

-- "A part not of 8 bytes reads as zeros."
unfoldable pub byte_of : List ℕ → ℕ → ℕ
byte_of l i = cond (eqb (length l) line_size) (get_or l i 0) 0

-- "Little-endian": the 16 bits at byte i
abbrev pub half_of : List ℕ → ℕ → ℕ
half_of l i = byte_of l i + 256 * byte_of l (i + 1)

-- "Bytes 2-3 length, 0 meaning 65,536"
unfoldable pub length_of : List ℕ → ℕ
length_of l = cond (eqb (half_of l 2) 0) 65536 (half_of l 2)

-- "low two bits taken as 0"
abbrev pub aligned : ℕ → ℕ
aligned at = at / 4 * 4

-- "bytes 4-7 address, low two bits taken as 0"
unfoldable pub address_of : List ℕ → ℕ
address_of l = aligned (half_of l 4 + 65536 * half_of l 6)

-- is the lowest bit 1?
abbrev pub odd_of : ℕ → Bool
odd_of n = eqb (n % 2) 1

-- "Byte 0: Valid 1, End 2, Int 4, Act1 10h, Act2 20h; other bits and byte 1 ignored"
unfoldable pub flags_of : List ℕ → Flags
flags_of l =
    record {
      valid = odd_of (byte_of l 0);
      end = odd_of (byte_of l 0 / 2);
      int = odd_of (byte_of l 0 / 4);
      act1 = odd_of (byte_of l 0 / 16);
      act2 = odd_of (byte_of l 0 / 32);
    }

-- a line as it is read: its five flags, length and address
abbrev pub read_of : List ℕ → Line
read_of l = record { flags = flags_of l; length = bytes (length_of l); address = address_of l }

-- "Act2 Act1: 10b Tran, 11b Link, others only step on."
abbrev pub act_of : Flags → Act
act_of f = cond f.act2 (cond f.act1 Link Tran) Other
