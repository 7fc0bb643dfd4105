-- The copy is the file's memory, the run starts at power-on, and the head and then all the steps are the text (`head_on`).
use Rattle.std.proofs.Common.{◌≡◌, ◌+◌, ◌-◌, arith}
use Rattle.runfile.specs.Text.{put_of, head_text}
use Rattle.runfile.specs.Run.{RunWorld, start_of}
use Rattle.runfile.proofs.Onward.{head_on}
use Rattle.runfile.proofs.run.Ride.run.Goals as goal

pub returns-clause-run : goal.returns-clause-run
returns-clause-run c =
    let r = c.args.self.now in
    let file = r.file.now in
    let l = r.layout in
    let text = c.args.text.now in
    let k : 4 + l.memory - 4 ≡ l.memory = omega arith in
    let m = rw k at c.copy_from_slice.ensures.after in
    let w : RunWorld = record { state = r.state; memory = c.copy_from_slice.new.self; buffer = r.buffer.now; room = r.room.now } in
    let s : w ≡ start_of file l.memory r.buffer.now r.room.now = rw (c.requires.1, m) in
    let h : (c.head.new.self.at, c.head.new.self.room.now) ≡ put_of text.room.now 0 (head_text l.steps) = rw c.requires.2 at c.head.ensures.text in
    head_on file l w r.buffer.now r.room.now text.room.now _ _ _ h s c.steps.ensures.ride
