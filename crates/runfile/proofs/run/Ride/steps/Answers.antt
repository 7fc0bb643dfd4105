-- A step, its line and then the rest are all the steps (`rode_on`), and a line stays within its 19 bytes.
use Rattle.std.proofs.Common.{◌≡◌, ◌+◌, ◌*◌, ◌≤◌, ◌∙◌, length, arith}
use Rattle.runfile.specs.File.{step_size, steps_base, step_at}
use Rattle.runfile.specs.Text.{put_of}
use Rattle.runfile.specs.Ride.{world_of}
use Rattle.runfile.specs.Run.{StepDone, done_as, card_of, rode_of, rode_text}
use Rattle.runfile.proofs.Onward.{line_short, rode_on, rode_none}
use Rattle.runfile.proofs.Puts.{put_end, put_kept}
use Rattle.runfile.proofs.run.Ride.steps.Goals as goal

pub loop-i-preserved : goal.loop-i-preserved
loop-i-preserved c =
    let a = c.args.self.now in
    let o = c.loop-i in
    let file = a.file.now in
    let card = card_of file a.layout in
    let base = steps_base a.layout.memory in
    let q = c.step-answer in
    let p = c.line-in-loop-i in
    let n = p.new.self in
    let s = step_at file (base + step_size * o.i) in
    let w = world_of o.self in
    let v = world_of q.new.self in
    let d : StepDone = done_as q.result q.new.self.state in
    let r : (d, v) ≡ rode_of card s w = rw (c.step_at-step.ensures, o.invariant.lent.0, o.invariant.lent.1) at q.ensures.ride in
    let l : (n.at, n.room.now) ≡ put_of o.text.room.now o.text.at (rode_text o.i d) =
    rw (c.from.ensures, c.number.ensures, c.value.ensures, c.line.ensures) at p.ensures.text in
    let x = rode_text o.i d in
    let k : length x ≤ 19 = line_short o.i _ _ _ in
    let e = put_end o.text.room.now n.room.now o.text.at n.at x l in
    let f = put_kept o.text.room.now n.room.now o.text.at n.at x l (omega (arith, k)) in
    let h = q.ensures.same_lent in
    let g = o.invariant.lent in
    record {
      lines = omega (arith, k, e, f);
      lent = (h.0 ∙ g.0, h.1 ∙ g.1, h.2 ∙ g.2, h.3 ∙ g.3, h.4 ∙ g.4);
      room = p.ensures.same_room ∙ o.invariant.room;
      rest = rode_on file card base _ _ o.i w v d o.text.room.now n.room.now o.text.at n.at (omega arith) r l ∙ o.invariant.rest;
    }

pub returns-clause-ride : goal.returns-clause-ride
returns-clause-ride c =
    let a = c.args.self.now in
    let o = c.loop-i in
    rode_none a.file.now (card_of a.file.now a.layout) (steps_base a.layout.memory) _ o.i (world_of o.self) o.text.room.now o.text.at (omega arith)
    ∙ o.invariant.rest
