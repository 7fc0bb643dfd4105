-- The three parts, one behind the other, are one text (`put_then`).
use Rattle.std.proofs.Common.{[], ◌∷◌, ◌++◌}
use Rattle.runfile.specs.Text.{rest_text}
use Rattle.runfile.proofs.Puts.{put_then}
use Rattle.runfile.proofs.text.Text.rest.Goals as goal

pub returns-clause-text : goal.returns-clause-text
unfolding rest_text
returns-clause-text c =
    let a = c.args.self.now in
    let x = c.put.new.self in
    let y = c.put-2.new.self in
    let d = c.hex_digits.result in
    let l = c.line_digit.result in
    rw (c.hex_digits.ensures, c.line_digit.ensures) at
    (put_then a.room.now x.room.now _ a.at x.at _ (32 ∷ []) (d ++ (32 ∷ l ∷ 10 ∷ [])) c.put.ensures.text
    (put_then x.room.now y.room.now _ x.at y.at _ d (32 ∷ l ∷ 10 ∷ []) c.put-2.ensures.text c.put-3.ensures.text))
