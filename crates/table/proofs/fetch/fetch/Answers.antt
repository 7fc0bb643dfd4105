-- A line with Valid 1 is all there, so the next one lies no higher than memory's end.
use Rattle.std.specs.Prelude.{Bool, true, false, not, ◌≡◌, refl}
use mathlib.Core.Path.{sym}
use Rattle.std.proofs.Common.{◌≤◌, ◌+◌, length, arith}
use Rattle.table.specs.Line.{line_size}
use Rattle.table.proofs.Laws.{line_there}
use Rattle.table.proofs.fetch.fetch.Goals as goal

not_false : (b : Bool) → not b ≡ false → b ≡ true
not_false true e = refl
not_false false e = sym e

pub overflow_add-next : goal.overflow_add-next
overflow_add-next c =
    let there : c.args.at + line_size ≤ length c.args.mem.now =
    line_there c.args.mem.now _ (rw (c.flags_of-flags.ensures, c.line_at-line.ensures) at (not_false _ c.if-not-flags.false)) in
    omega arith
