-- What the program holds of a run under way. Assumes nothing: these are definitions.
use Rattle.std.specs.Prelude.{◌≡◌}
use Rattle.runfile.specs.Run.{RunWorld}
use Rattle.runfile.specs.declared.run.Ride.{Ride}

abbrev pub world_of : Ride → RunWorld
world_of r = record { state = r.state; memory = r.memory.now; buffer = r.buffer.now; room = r.room.now }

-- it still holds the same file, the same memory, the same buffer and the same room
abbrev pub SameLent : Ride → Ride → Type 0
SameLent r s =
    (s.file.now ≡ r.file.now)
    × (s.layout ≡ r.layout)
    × (s.memory.ghost_name ≡ r.memory.ghost_name)
    × (s.buffer.ghost_name ≡ r.buffer.ghost_name)
    × (s.room.ghost_name ≡ r.room.ghost_name)
