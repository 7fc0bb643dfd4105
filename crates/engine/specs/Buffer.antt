-- "The buffer is one block." It is lent as bytes; how many of them are a block, what it holds, what a move may take. Assumes nothing: these are
-- definitions.
use Rattle.std.specs.Prelude.{ℕ, min}
use Rattle.terms.specs.Counts.{bytes, less, least}
use Rattle.terms.specs.declared.ByteCount.{ByteCount}
use Rattle.engine.specs.declared.transfer.Way.{Way}
use Rattle.engine.specs.declared.transfer.Way.TheVariants.{Read, Write}

-- one block, and no more than the bytes that are lent for it
abbrev pub block_of : ℕ → ℕ → ByteCount
block_of size lent = bytes (min size lent)

-- the bytes that it holds, never more than a block
abbrev pub held_of : ℕ → ℕ → ByteCount → ByteCount
held_of size lent held = least held (block_of size lent)

-- "the buffer's room (write) or content (read)"
abbrev pub ready_of : Way → ℕ → ℕ → ByteCount → ByteCount
ready_of Write size lent held = less (block_of size lent) (held_of size lent held)
ready_of Read size lent held = held_of size lent held
