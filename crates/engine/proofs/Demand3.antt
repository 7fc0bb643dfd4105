-- Demand 3 over every list of the engine's own steps. Assumes nothing.
use Prim.Native.Nat.{ℕ, ◌+◌, ◌*◌, ◌≤◌}
use native.Mathlib.Omega.{arith}
use mathlib.Core.Path.{◌≡◌, refl, sym, ap, ◌∙◌, subst}
use mathlib.Core.List.{List, [], ◌++◌, append-nil}
use mathlib.Core.Bool.{Bool, true, false, true≢false, false≢true}
use lib.ListN.{length}
use Rattle.terms.specs.Counts.{times}
use Rattle.table.specs.Memory.{memory_limit}
use Rattle.table.specs.Trace.{Area, trace_of, named_bytes, fill}
use Rattle.engine.specs.Transfer.{issued, outcome_of, runs_of}
use Rattle.engine.specs.Run.{Event, World, run, start}
use Rattle.engine.specs.Demand.{Uncovered, Premise, Open, end_of, ends_as, Carried, Kept, Demand}
use Rattle.engine.proofs.Names.{BlockCount, Way, Read, Write, Fetching, Moving, Stopped, Free, Next, Fetch, Move, Stop, Finish, Fail, Completes}
use Rattle.engine.proofs.Coming.{coming, weight}
use Rattle.engine.proofs.Invariant.{Goal, Now, Count, Shape, Side, one, one_most, comes, Inv}
use Rattle.engine.proofs.Content.{none_shown}
use Rattle.engine.proofs.Worlds.{world}
use Rattle.engine.proofs.Reached.{Stands, Reached, reach}
use Rattle.engine.proofs.Steps.{run_leads}
use Rattle.engine.proofs.Progress.{progress, bounded}

-- ---- what holds of a world that the invariant holds of

-- a transfer that has ended, as its goal says
record Ended (way : Way) (G : Goal) (w : World) : Type 0 where
  outcome : w.told ≡ end_of G.trace.kind
  stands : w.dat ≡ ends_as way G.trace.kind
  carried : Carried way G.size G.memory G.trace.named w.memory w.passed
  rung : w.rings ≡ G.trace.rings

module _ (counted : Bool) (G : Goal) (n : ℕ) (s : Now) (x : List ℕ) where
  abbrev shows : Way → Next → World
  shows way st = world way counted G.size s x st

  -- with no data to come, the named bytes are carried
  end_carried : (way : Way) (st : Next) → (comes n s st).named ≡ [] → Inv way G n s st
      → Carried way G.size G.memory G.trace.named s.cargo.memory s.cargo.passed
  unfolding named_bytes fill
  end_carried Write st e i = (
    s.cargo.held,
    i.within,
    ap (λ (l : List ℕ). s.cargo.passed ++ l) (sym (append-nil s.cargo.held))
        ∙ ap (λ (l : List Area). s.cargo.passed ++ (s.cargo.held ++ named_bytes s.cargo.memory l)) (sym e) ∙ i.side.carried,
  )
  end_carried Read st e i =
      ap (λ (l : List Area). fill s.cargo.memory l (s.cargo.held ++ [])) (sym e) ∙ i.side.carried []
      ∙ ap (fill G.memory G.trace.named) (append-nil s.cargo.passed)

  -- a transfer that has ended, with nothing to come
  over : (way : Way) (st : Next) → Stands way G n s x st → (shows way st).told ≡ end_of (comes n s st).kind
      → (shows way st).dat ≡ ends_as way (comes n s st).kind → (comes n s st).named ≡ [] → (comes n s st).rings ≡ 0 → Ended way G (shows way st)
  over way st h o d none z =
      record {
        outcome = o ∙ ap end_of h.inv.kind;
        stands = d ∙ ap (ends_as way) h.inv.kind;
        carried = end_carried way st none h.inv;
        rung = omega (arith, h.inv.rung);
      }

  ended : (way : Way) (st : Next) → Stands way G n s x st → runs_of (shows way st).dat ≡ false → Ended way G (shows way st)
  unfolding coming
  ended way Fetch h e = absurd (true≢false e)
  ended way (Move d) h e = absurd (true≢false e)
  ended way Stop h e = absurd (true≢false e)
  ended way Finish h e = over way Finish h refl refl refl refl
  ended way (Fail state) h e = over way (Fail state) h refl refl refl refl

  -- "nothing else touched"
  kept : (way : Way) (st : Next) → Inv way G n s st → Kept way G.memory G.trace.named s.cargo.memory
  kept Write st i = i.side.same
  kept Read st i = (i.long, λ j o. (i.side.others j o).1)

  -- "no block left and the buffer empty"
  whole : (way : Way) (st : Next) → Inv way G n s st → outcome_of st ≡ Completes
      → ((shows way st).dat ≡ Free) × (length s.cargo.passed ≡ G.blocks * G.size)
  unfolding Shape
  whole way Fetch i e = let z : ◌≡◌ {A = ℕ} 0 1 = cc in absurd (omega arith)
  whole way (Move d) i e = let z : ◌≡◌ {A = ℕ} 0 1 = cc in absurd (omega arith)
  whole way Stop i e = let z : ◌≡◌ {A = ℕ} 0 1 = cc in absurd (omega arith)
  whole way Finish i e = (refl, omega (arith, i.shared, ap (λ (l : ℕ). l * G.size) i.shape.0))
  whole way (Fail state) i e = let z : ◌≡◌ {A = ℕ} 0 1 = cc in absurd (omega arith)

  module _ (permitted : length G.memory ≤ memory_limit) where
    -- one that has not
    lively : (way : Way) (st : Next) → Stands way G n s x st → runs_of (shows way st).dat ≡ true → Open G.size (shows way st)
    lively way Fetch h e = progress counted G permitted n s x way Fetching h s.answered refl
    lively way (Move d) h e = progress counted G permitted n s x way (Moving d) h s.answered refl
    lively way Stop h e = progress counted G permitted n s x way Stopped h s.answered refl
    lively way Finish h e = absurd (false≢true e)
    lively way (Fail state) h e = absurd (false≢true e)

-- ---- a data command that has just issued

-- what it was issued with, and the trace of its table
abbrev pub goal : ℕ → BlockCount → ℕ → List ℕ → ℕ → Goal
goal size blocks table mem lines =
    record { size = size; blocks = blocks.0; lines = lines; memory = mem; trace = trace_of mem lines table (times blocks size) }

module _ (way : Way) (counted : Bool) (size : ℕ) (blocks : BlockCount) (table : ℕ) (buffer mem : List ℕ) (lines : ℕ)
    (h : Premise way size blocks table buffer mem lines) where
  abbrev G : Goal
  G = goal size blocks table mem lines

  abbrev first : Now
  first =
      record {
        cargo = record { left = blocks.0; owed = blocks.0 * size; held = []; memory = mem; passed = [] };
        answered = false;
        table = table;
        rings = 0;
        turns = 0;
        steps = 0;
      }

  start_count : (way : Way) → Count way size blocks.0 (blocks.0 * size) 0
  start_count Write = omega arith
  start_count Read = omega arith

  start_side : (way : Way) → Uncovered way G.trace → Side way G first.cargo G.trace.lines G.trace.named (0 + 2 * lines)
  start_side Write clear = record { paid = omega arith; spare = λ e. omega arith; same = refl; carried = refl }
  start_side Read sure =
      record {
        paid = omega arith;
        spare = λ e. absurd (omega arith);
        clear = sure;
        others = λ i o. (o, refl);
        carried = λ more. refl;
      }

  start_inv : Inv way G lines first Fetch
  unfolding coming weight Shape one
  start_inv =
      record {
        within = omega arith;
        long = refl;
        shared = omega arith;
        tallied = omega arith;
        kind = refl;
        rung = omega arith;
        count = start_count way;
        shape = tt;
        side = start_side way h.clear;
      }

  -- the invariant holds where a run begins
  pub starts : Reached way counted G (start (issued way counted size blocks) table buffer mem)
  starts = reach way counted G lines first buffer Fetch (record { shown = none_shown way size buffer h.small; inv = start_inv }) refl

  -- ---- demand 3

  demand_of : (w : World) → Reached way counted G w → Demand way size blocks table mem lines w
  demand_of w r =
      let i : Inv way G r.ahead r.now r.phase = r.stands.inv in
      let b = bounded way G r.ahead r.now r.phase h.positive i in
      let end = ended counted G r.ahead r.now r.buffer way r.phase r.stands in
      subst (λ (w : World). Demand way size blocks table mem lines w) (sym r.is)
      (record {
        bounded = b;
        counted = omega (arith, b, i.tallied, one_most r.now.answered);
        lively = lively counted G r.ahead r.now r.buffer h.permitted way r.phase r.stands;
        outcome = λ e. (end e).outcome;
        stands = λ e. (end e).stands;
        carried = λ e. (end e).carried;
        rung = λ e. (end e).rung;
        ringing = omega (arith, i.rung);
        kept = kept counted G r.ahead r.now r.buffer way r.phase i;
        whole = whole counted G r.ahead r.now r.buffer way r.phase i;
      })

  -- "at most 2N + B turns do something", "a turn, the response or a block is always accepted", and the end that the table gives, "nothing else touched"
  pub demand_3 : (es : List Event) → Demand way size blocks table mem lines (run (start (issued way counted size blocks) table buffer mem) es)
  demand_3 es =
      let w : World = start (issued way counted size blocks) table buffer mem in
      demand_of (run w es) (run_leads counted G h.positive h.reaches h.permitted way es w starts)
