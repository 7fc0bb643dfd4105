-- "Blocks and bytes are two counters and one never stands in for the other." Assumes nothing: these are definitions.
use Rattle.std.specs.Prelude.{ℕ, ◌+◌, ◌-◌, ◌*◌, min, pred}
use Rattle.terms.specs.declared.BlockCount.{BlockCount}
use Rattle.terms.specs.declared.ByteCount.{ByteCount}

-- so many blocks, so many bytes
abbrev pub blocks : ℕ → BlockCount
blocks n = record { 0 = n }

abbrev pub bytes : ℕ → ByteCount
bytes n = record { 0 = n }

-- "a product by the block size is the only crossing"
abbrev pub times : BlockCount → ℕ → ByteCount
times b size = bytes (b.0 * size)

-- one block less; of none, none
abbrev pub fewer : BlockCount → BlockCount
fewer b = blocks (pred b.0)

-- so many bytes more
abbrev pub more : ByteCount → ByteCount → ByteCount
more a b = bytes (a.0 + b.0)

-- so many bytes less; none where fewer were there
abbrev pub less : ByteCount → ByteCount → ByteCount
less a b = bytes (a.0 - b.0)

-- the smaller of two
abbrev pub least : ByteCount → ByteCount → ByteCount
least a b = bytes (min a.0 b.0)
