-- What is left of the steps, from where the loop stands, ends as all of them do, and every line left has room.
use Rattle.std.proofs.Common.{◌≡◌, ◌+◌, ◌*◌, ◌-◌, ◌≤◌, length}
use Rattle.runfile.specs.Ride.{SameLent, world_of}
use Rattle.runfile.specs.File.{steps_base}
use Rattle.runfile.specs.Run.{card_of, rode_all}
use Rattle.runfile.proofs.run.Ride.steps.Given as goal

abbrev pub invariant-loop-i : goal.invariant-loop-i
invariant-loop-i l =
    let r = l.fn.self in
    let all = rode_all r.file.now (card_of r.file.now r.layout) (steps_base r.layout.memory) in
    record {
      lines : l.text.at + 19 * (r.layout.steps - l.i) ≤ length l.text.room.now;
      lent : SameLent r l.self;
      room : l.text.room.ghost_name ≡ l.fn.text.room.ghost_name;
      rest : all (r.layout.steps - l.i) l.i (world_of l.self) l.text.room.now l.text.at
          ≡ all r.layout.steps 0 (world_of r) l.fn.text.room.now l.fn.text.at;
    }
