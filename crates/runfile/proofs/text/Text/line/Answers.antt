-- The four parts, one behind the other, are one text (`put_then`).
use Rattle.std.proofs.Common.{[], ◌∷◌, ◌++◌}
use Rattle.runfile.specs.Text.{decimal, rest_text, line_text}
use Rattle.runfile.proofs.Puts.{put_then}
use Rattle.runfile.proofs.text.Text.line.Goals as goal

pub returns-clause-text : goal.returns-clause-text
unfolding line_text
returns-clause-text c =
    let a = c.args.self.now in
    let x = c.decimal.new.self in
    let y = c.put.new.self in
    let z = c.decimal-2.new.self in
    let n = decimal c.args.number in
    let m = decimal c.args.answer in
    let r = rest_text c.args.value c.args.line in
    put_then a.room.now x.room.now _ a.at x.at _ n (32 ∷ (m ++ r)) c.decimal.ensures.text
    (put_then x.room.now y.room.now _ x.at y.at _ (32 ∷ []) (m ++ r) c.put.ensures.text
    (put_then y.room.now z.room.now _ y.at z.at _ m r c.decimal-2.ensures.text c.rest.ensures.text))
