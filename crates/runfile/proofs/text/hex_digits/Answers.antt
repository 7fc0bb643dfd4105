-- The eight digits, written out: the last is of n / 1.
use Rattle.std.proofs.Common.{◌≡◌, ℕ, ◌-◌, ◌*◌, ◌/◌, ◌%◌, ◌^◌, arith}
use Rattle.std.proofs.lemmas.List.FromFn.{fill_by_all}
use Rattle.runfile.specs.Text.{nibble}
use Rattle.runfile.proofs.text.hex_digits.Goals as goal

pub returns : goal.returns
returns c =
    let one : c.args.n / 1 ≡ c.args.n = omega arith in
    rw one at
    (fill_by_all (λ (k : ℕ). nibble (c.args.n / 2 ^ (28 - 4 * k) % 16)) c.loop-i.digit-items 8 0 (omega arith)
    (λ k h. c.loop-i.invariant k (omega arith)))
