-- Words as sets of bits. Assumes nothing: these are definitions.
use Rattle.std.specs.Prelude.{ℕ, suc, ◌-◌, ◌/◌, ◌%◌, ◌^◌, Bool, eqb}
use Rattle.std.specs.Int.Bits.{bit_and, bit_or}

-- does bit k of n stand?
unfoldable pub bit_of : ℕ → ℕ → Bool
bit_of n k = eqb (n / 2 ^ k % 2) 1

-- "bits hi-lo": both, and all between them
abbrev pub field : ℕ → ℕ → ℕ
field hi lo = 2 ^ suc hi - 2 ^ lo

-- "bit k"
abbrev pub bit : ℕ → ℕ
bit k = field k k

-- the bits of a that are not in b
unfoldable pub without : ℕ → ℕ → ℕ
without a b = a - bit_and a b

-- a word in which the bits of `lanes` are replaced by `bits`
unfoldable pub put : ℕ → ℕ → ℕ → ℕ
put old lanes bits = bit_or (without old lanes) bits
