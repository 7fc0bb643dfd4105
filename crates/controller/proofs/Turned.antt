-- The slot after a turn, by what the engine gives: a refusal leaves it as it was. Assumes nothing.
use Prim.Native.Nat.{ℕ}
use mathlib.Core.Path.{◌≡◌, refl}
use mathlib.Core.List.{List}
use Rattle.std.specs.Prelude.{Result, Ok, Err}
use Rattle.terms.specs.declared.Refusal.{Refusal}
use Rattle.engine.specs.declared.turn.Turn.{Turn}
use Rattle.engine.specs.Turn as engine
use Rattle.engine.proofs.Exactly.{Turns, large, idle, early, done, turn_case}
use Rattle.registers.specs.Block.{with_low}
use Rattle.controller.specs.Slot.{Stepped, with_sides, stepped_as}
use Rattle.controller.specs.Data.{outcome_at, ring_at, turned_of, turn_of}
use Rattle.controller.proofs.Names.{Turned, Slot}

abbrev pub told : Slot → Result Turn Refusal → Stepped
told s (Ok t) = stepped_as (Ok t.count) (with_sides s (outcome_at t.outcome (ring_at t.int (with_low s.registers t.table))) s.command t.dat)
told s (Err refusal) = stepped_as (Err refusal) s

abbrev pub told_with : Slot → Result Turn Refusal × List ℕ × List ℕ → Stepped × List ℕ × List ℕ
told_with s r = (told s r.0, r.1, r.2)

pub turn_told : (s : Slot) (x mem : List ℕ) → turn_of s x mem ≡ told_with s (engine.turned_with (engine.turn_of s.dat s.registers.adma.low x mem))
turn_told s x mem = go (turn_case s.dat s.registers.adma.low x mem)
  where
    go : {r : Turned × List ℕ × List ℕ} → Turns s.dat s.registers.adma.low x mem r → (turned_of s r.0, r.1, r.2) ≡ told_with s (engine.turned_with r)
    go (large m) = refl
    go (idle h i) = refl
    go (early h p) = refl
    go (done h i p e r owed held count int next y m) = refl
