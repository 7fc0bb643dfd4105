-- Until a transfer ends a turn, the response or a block is always accepted, and its turns are within their bound. Assumes nothing.
use Prim.Native.Nat.{ℕ, zero, suc, ◌+◌, ◌*◌, ◌≤◌, ◌<◌}
use native.Mathlib.Omega.{arith}
use mathlib.Core.Path.{◌≡◌, refl, sym, ap, ◌∙◌}
use mathlib.Core.List.{List}
use mathlib.Core.Bool.{Bool, true, false, not}
use lib.ListN.{length}
use borrow.Author.Tests.{le-ltb, eq-eqb}
use Rattle.terms.specs.Answers.{number_of}
use Rattle.terms.specs.Counts.{bytes}
use Rattle.table.specs.Memory.{memory_limit}
use Rattle.engine.specs.Buffer.{ready_of}
use Rattle.engine.specs.Turn.{running_of, staged_of}
use Rattle.engine.specs.Demand.{Open, by_turn, by_reply, by_given, by_taken}
use Rattle.engine.proofs.Names.{ByteCount, Way, Read, Write, Stage, Fetching, Moving, Stopped, Transfer, Runs, Next, Turned, Passed, in_hand}
use Rattle.engine.proofs.Exactly.{gives, gives_may, takes, takes_may}
use Rattle.engine.proofs.Coming.{weight}
use Rattle.engine.proofs.Invariant.{Goal, allowed, Cargo, Now, Shape, Inv}
use Rattle.engine.proofs.Passes.{phase_of}
use Rattle.engine.proofs.Content.{block_is, held_is}
use Rattle.engine.proofs.Worlds.{running, runs, turn_small, answered_is, moves_is, give_is, take_is}
use Rattle.engine.proofs.Reached.{Stands}

abbrev turn_number : Turned × List ℕ × List ℕ → ℕ
turn_number r = number_of r.0.answer

abbrev block_number : Passed × List ℕ → ℕ
block_number r = number_of r.0.answer

module _ (counted : Bool) (G : Goal) (permitted : length G.memory ≤ memory_limit) (n : ℕ) (s : Now) (x : List ℕ) where
  abbrev c : Cargo
  c = s.cargo

  -- ---- something is accepted

  -- a block is taken from a full buffer
  take_open : (stage : Stage) → Stands Write G n s x (phase_of stage) → length c.held ≡ G.size
      → Open G.size (runs Write counted G.size s x stage)
  take_open stage h full =
      by_taken (λ room lent.
      ap block_number
      (take_is (running Write counted G.size s stage) x room true false
      (takes_may (takes refl (held_is G.size c.held x h.shown.room h.inv.within ∙ full ∙ sym (block_is G.size x h.shown.room))))
      (le-ltb (length room) _ (omega arith))))

  -- a block is given to an empty one
  give_open : (stage : Stage) → Stands Read G n s x (phase_of stage) → s.answered ≡ true → length c.held ≡ 0 → 0 < c.left
      → Open G.size (runs Read counted G.size s x stage)
  give_open stage h a empty left =
      by_given (λ block long.
      ap block_number
      (give_is (running Read counted G.size s stage) x block true true
      (gives_may (gives refl a (held_is G.size c.held x h.shown.room h.inv.within ∙ empty) left))
      (eq-eqb (length block) _ (long ∙ sym (block_is G.size x h.shown.room)))))

  -- of the bytes owed by a read with an empty buffer, some block is left
  some_left : (left owed size : ℕ) → owed ≡ left * size + 0 → 0 < owed → 0 < left
  some_left zero owed size e h = omega arith
  some_left (suc left) owed size e h = omega arith

  module _ (rest : ByteCount) (at : ℕ) (last int : Bool) where
    abbrev moving : Stage
    moving = Moving (in_hand rest at last int)

    move_open : (way : Way) → Stands way G n s x (phase_of moving) → s.answered ≡ true → (ready : ℕ)
        → ready_of way G.size (length x) (bytes (length c.held)) ≡ bytes ready → Open G.size (runs way counted G.size s x moving)
    unfolding staged_of running_of Shape
    move_open Write h a zero e = take_open moving h (omega (arith, ap (λ (b : ByteCount). b.0) e, h.inv.within, h.shown.room))
    move_open Read h a zero e =
        let z : length c.held ≡ 0 = omega (arith, ap (λ (b : ByteCount). b.0) e, h.inv.within, h.shown.room) in
        give_open moving h a z (some_left c.left c.owed G.size (omega (arith, h.inv.count)) (omega (arith, h.inv.shape.0, h.inv.shape.1)))
    move_open way h a (suc r) e =
        let t : Transfer = running way counted G.size s moving in
        by_turn
        (ap turn_number
        (turn_small (Runs t) s.table x c.memory (omega (arith, h.inv.long))
        ∙ answered_is t s.table x c.memory s.answered true _ a
        ∙ moves_is t s.table x c.memory rest at last int (suc r) e (omega arith) (omega (arith, h.inv.shape.2))))

  stop_open : (way : Way) → Stands way G n s x (phase_of Stopped) → Open G.size (runs way counted G.size s x Stopped)
  unfolding Shape
  stop_open Write h = take_open Stopped h h.inv.shape.2
  stop_open Read h = let z : ◌≡◌ {A = ℕ} 0 1 = cc h.inv.shape.0 in absurd (omega arith)

  -- "until the transfer ends a turn, the response or a block is always accepted"
  pub progress : (way : Way) (stage : Stage) → Stands way G n s x (phase_of stage) → (a : Bool) → s.answered ≡ a
      → Open G.size (runs way counted G.size s x stage)
  unfolding staged_of running_of
  progress way stage h false e = by_reply (ap not e)
  progress way Fetching h true e =
      let t : Transfer = running way counted G.size s Fetching in
      by_turn
      (ap turn_number
      (turn_small (Runs t) s.table x c.memory (omega (arith, h.inv.long)) ∙ answered_is t s.table x c.memory s.answered true _ e))
  progress way (Moving d) h true e =
      move_open d.rest d.at d.last d.int way h e (ready_of way G.size (length x) (bytes (length c.held))).0 refl
  progress way Stopped h true e = stop_open way h

-- ---- the bound

-- a write with a block left has it to pay for one turn more, and one with none left holds nothing
write_bound : (size left owed held spent most : ℕ) → 0 < size → left * size ≡ owed + held → spent + left ≤ suc most
    → (held < size → spent + left ≤ most) → spent ≤ most
write_bound size zero owed held spent most positive e paid spare = omega (arith, spare (omega arith))
write_bound size (suc left) owed held spent most positive e paid spare = omega arith

-- "at most 2N + B turns do something"
pub bounded : (way : Way) (G : Goal) (n : ℕ) (s : Now) (st : Next) → 0 < G.size → Inv way G n s st → s.turns ≤ allowed G
bounded Write G n s st positive i =
    omega (
      arith,
      write_bound G.size s.cargo.left s.cargo.owed (length s.cargo.held) (s.turns + weight n st) (allowed G) positive
          i.count i.side.paid i.side.spare,
    )
bounded Read G n s st positive i = omega (arith, i.side.paid)
