-- "Bytes of one access take effect in rising offset": an access as its bytes, each an access of its own. Assumes nothing: these are definitions.
use Rattle.std.specs.Prelude.{ℕ, zero, suc, ◌+◌, ◌*◌, ◌/◌, ◌%◌}
use Rattle.registers.specs.Place.{cut_of, edit_of}
use Rattle.registers.specs.Access.{take_of, write_of}
use Rattle.registers.specs.declared.place.Word.{Word}
use Rattle.registers.specs.declared.word.Facts.{Facts}
use Rattle.registers.specs.declared.block.Registers.{Registers}

-- a word read byte by byte
unfoldable pub read_bytes : ℕ → ℕ → ℕ → ℕ
read_bytes word lane zero = 0
read_bytes word lane (suc n) = cut_of word lane 1 + 256 * read_bytes word (lane + 1) n

-- a word written byte by byte, the lowest first
unfoldable pub take_bytes : ℕ → Word → ℕ → ℕ → Facts → Registers → Registers
take_bytes zero w lane value f r = r
take_bytes (suc n) w lane value f r = take_bytes n w (lane + 1) (value / 256) f (take_of w (edit_of lane 1 (value % 256)) f r)

-- the block after writes of one byte each, at rising offsets, whatever they answer
unfoldable pub write_bytes : ℕ → ℕ → ℕ → Facts → Registers → Registers
write_bytes zero offset value f r = r
write_bytes (suc n) offset value f r = write_bytes n (offset + 1) (value / 256) f (write_of r f offset 1 (value % 256)).registers
