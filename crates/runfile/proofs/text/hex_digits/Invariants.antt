-- The digits so far.
use Rattle.std.proofs.Common.{◌≡◌, ℕ, ◌<◌, ◌-◌, ◌*◌, ◌/◌, ◌%◌, ◌^◌, get_or}
use Rattle.runfile.specs.Text.{nibble}
use Rattle.runfile.proofs.text.hex_digits.Given as goal

abbrev pub invariant-loop-i : goal.invariant-loop-i
invariant-loop-i l = (k : ℕ) → k < l.i → get_or l.digit-items k 0 ≡ nibble (l.n / 2 ^ (28 - 4 * k) % 16)
