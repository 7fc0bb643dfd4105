-- So far, the first bytes of the part stand in the room, and the rest of them are still to come.
use Rattle.std.proofs.Common.{◌≡◌, ◌+◌, length, drop}
use Rattle.std.proofs.Math.Seq.{paste}
use Rattle.std.specs.Slice.Iter.{iter_rest}
use Rattle.std.specs.Iterator.Adapters.{zip_first, zip_second}
use Rattle.engine.proofs.buffer.put.Given as goal

abbrev pub invariant-loop-place : goal.invariant-loop-place
invariant-loop-place l =
    ((zip_first l.place-iterator).start ≡ l.at + length l.yielded)
    × (iter_rest (zip_second l.place-iterator) ≡ drop (length l.yielded) l.part)
    × (l.room ≡ paste l.initial.room l.at l.part (length l.yielded))
