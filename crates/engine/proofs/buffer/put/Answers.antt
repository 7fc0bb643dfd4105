-- A byte more of the part stands in the room.
use Rattle.std.proofs.Common.{◌≡◌, ◌+◌, ◌<◌, ◌++◌, ◌∷◌, [], length, drop, arith, length-append}
use Rattle.std.proofs.lemmas.List.Edits.{paste_more}
use Rattle.std.specs.Slice.Iter.{iter_rest}
use Rattle.std.specs.Iterator.Adapters.{zip_second}
use Rattle.engine.proofs.Left.{below, first_left, rest_left}
use Rattle.engine.proofs.buffer.put.Goals as goal

pub loop-place-preserved : goal.loop-place-preserved
loop-place-preserved c =
    let a = c.args in
    let n = length c.loop-place.yielded in
    let byte = c.in-Some.byte in
    let later = iter_rest (zip_second c.next.new.self) in
    let s = c.in-Some.ensures.steps in
    let v = c.loop-place.invariant in
    let more : length (c.loop-place.yielded ++ (c.in-Some.place, byte) ∷ []) ≡ n + 1 = length-append _ _ in
    let cut : drop n a.part.now ≡ byte.now ∷ later = cc in
    let there = below a.part.now later n byte.now cut in
    let fits : a.at + n < length a.room.now = omega (arith, c.requires, there) in
    let first = first_left a.part.now later n byte.now cut in
    let pasted = paste_more a.room.now a.at a.part.now n 0 fits there in
    (grind (arith, s, v, more), rw more (rest_left a.part.now later n byte.now cut), rw more cc)
