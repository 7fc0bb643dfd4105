-- What a turn is lent. Assumes nothing: these are definitions.
use Rattle.std.specs.Prelude.{◌≡◌}
use Rattle.engine.specs.declared.turn.Lent.{Lent}

-- it is still the same buffer and the same memory
abbrev pub SameLent : Lent → Lent → Type 0
SameLent l m = (m.buffer.ghost_name ≡ l.buffer.ghost_name) × (m.mem.ghost_name ≡ l.mem.ghost_name)
