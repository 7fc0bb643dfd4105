-- "Memory stands for addresses from 0." What is in memory, and how much memory a step takes. Assumes nothing: these are definitions.
use Rattle.std.specs.Prelude.{ℕ, ◌+◌, List, Bool, length, leb, ltb}

-- do n bytes from an address on lie in a memory of so many bytes? A true sum: nothing wraps
abbrev pub in_memory : ℕ → ℕ → ℕ → Bool
in_memory size at n = leb (at + n) size

-- where in the lent memory the byte of an address stands
abbrev pub index_of : ℕ → ℕ
index_of at = at

-- "lent memory over 16,777,216 bytes"
abbrev pub memory_limit : ℕ
memory_limit = 16777216

abbrev pub too_large : List ℕ → Bool
too_large mem = ltb memory_limit (length mem)
