-- The three parts, one behind the other, are one text (`put_then`).
use Rattle.std.proofs.Common.{[], ◌∷◌, ◌++◌}
use Rattle.runfile.specs.Text.{decimal}
use Rattle.runfile.proofs.Puts.{put_then}
use Rattle.runfile.proofs.text.Text.head.Goals as goal

pub returns-clause-text : goal.returns-clause-text
returns-clause-text c =
    let a = c.args.self.now in
    let x = c.put.new.self in
    let y = c.decimal.new.self in
    let d = decimal c.args.steps in
    put_then a.room.now x.room.now _ a.at x.at _ (115 ∷ 116 ∷ 101 ∷ 112 ∷ 115 ∷ 32 ∷ []) (d ++ (10 ∷ [])) c.put.ensures.text
    (put_then x.room.now y.room.now _ x.at y.at _ d (10 ∷ []) c.decimal.ensures.text c.put-2.ensures.text)
