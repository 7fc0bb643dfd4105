-- The response and the blocks keep the invariant: a block given, a block taken. Assumes nothing.
use Prim.Native.Nat.{ℕ, zero, suc, pred, ◌+◌, ◌*◌, ◌<◌}
use native.Mathlib.Omega.{arith}
use mathlib.Core.Path.{◌≡◌, refl, ap, ◌∙◌}
use mathlib.Core.List.{List, [], ◌++◌, append_assoc}
use mathlib.Core.Bool.{true, false}
use lib.ListN.{length, length-append}
use Rattle.terms.specs.Counts.{blocks}
use Rattle.table.specs.Trace.{Trace, named_bytes}
use Rattle.engine.specs.Block.{emptied_of}
use Rattle.engine.proofs.Names.{Way, Read, Write, Stage, Fetching, Moving, Stopped, Next, Fetch, Move, Stop}
use Rattle.engine.proofs.Coming.{coming, ending_comes, weight, ending_weight}
use Rattle.engine.proofs.Invariant.{Goal, Cargo, Now, Shape, one, Inv, ending_shape}

-- ---- the response

-- "Response, to a waiting command"
abbrev pub replied : Now → Now
replied s = record { cargo = s.cargo; answered = true; table = s.table; rings = s.rings; turns = s.turns; steps = suc s.steps }

-- it is a step that counts, and moves nothing
pub reply_keeps : (way : Way) (G : Goal) (n : ℕ) (s : Now) (st : Next) → s.answered ≡ false → Inv way G n s st → Inv way G n (replied s) st
unfolding one
reply_keeps way G n s st e i =
    record {
      within = i.within;
      long = i.long;
      shared = i.shared;
      tallied = omega (arith, i.tallied, ap one e);
      kind = i.kind;
      rung = i.rung;
      count = i.count;
      shape = i.shape;
      side = i.side;
    }

-- ---- a block passes

-- where a running transfer is
abbrev pub phase_of : Stage → Next
phase_of Fetching = Fetch
phase_of (Moving d) = Move d
phase_of Stopped = Stop

-- a block passes, and these bytes are then held
abbrev pub passes : Now → List ℕ → List ℕ → Now
passes s block held =
    record {
      cargo = record { left = pred s.cargo.left; owed = s.cargo.owed; held = held; memory = s.cargo.memory; passed = s.cargo.passed ++ block };
      answered = s.answered;
      table = s.table;
      rings = s.rings;
      turns = s.turns;
      steps = suc s.steps;
    }

module _ (G : Goal) (positive : 0 < G.size) where
  -- one of the blocks left
  one_fewer : (left : ℕ) → 0 < left → (left ≡ suc (pred left)) × (left * G.size ≡ pred left * G.size + G.size)
  one_fewer zero h = absurd (omega arith)
  one_fewer (suc left) h = (refl, omega arith)

  -- a block given leaves the transfer where it is: no read stops with a block to go
  given_shape : (left owed held left' held' room : ℕ) (stage : Stage) → Shape Read G.size left owed held room (phase_of stage)
      → Shape Read G.size left' owed held' room (phase_of stage)
  unfolding Shape
  given_shape left owed held left' held' room Fetching h = tt
  given_shape left owed held left' held' room (Moving d) h = h
  given_shape left owed held left' held' room Stopped h = let z : ◌≡◌ {A = ℕ} 0 1 = cc h.0 in absurd (omega arith)

  -- "Block given: running read, its response in, buffer empty, blocks left."
  pub give_keeps : (n : ℕ) (s : Now) (stage : Stage) (block : List ℕ) → s.cargo.held ≡ [] → 0 < s.cargo.left → length block ≡ G.size
      → Inv Read G n s (phase_of stage) → Inv Read G n (passes s block block) (phase_of stage)
  give_keeps n s stage block none more full i =
      let c : Cargo = s.cargo in
      let f = one_fewer c.left more in
      let z : length c.held ≡ 0 = ap length none in
      record {
        within = omega arith;
        long = i.long;
        shared = omega (arith, i.shared, length-append c.passed block);
        tallied = omega (arith, i.tallied);
        kind = i.kind;
        rung = i.rung;
        count = omega (arith, i.count);
        shape = given_shape c.left c.owed (length c.held) (pred c.left) (length block) (length c.memory) stage i.shape;
        side =
            record {
              paid = omega (arith, i.side.paid);
              spare = λ h. omega (arith, i.side.paid);
              clear = i.side.clear;
              others = i.side.others;
              carried = λ m. rw (append_assoc c.passed block m) (rw none at (i.side.carried (block ++ m)));
            };
      }

  -- the trace to come and its turns stay
  emptied_comes : (n : ℕ) (mem : List ℕ) (table owed left : ℕ) (stage : Stage)
      → coming n mem table owed (emptied_of stage (blocks left)) ≡ coming n mem table owed (phase_of stage)
  unfolding coming
  emptied_comes n mem table owed left Fetching = refl
  emptied_comes n mem table owed left (Moving d) = refl
  emptied_comes n mem table owed left Stopped = ending_comes n mem left 0 table owed

  emptied_weight : (n left : ℕ) (stage : Stage) → weight n (emptied_of stage (blocks left)) ≡ weight n (phase_of stage)
  unfolding weight
  emptied_weight n left Fetching = refl
  emptied_weight n left (Moving d) = refl
  emptied_weight n left Stopped = ending_weight n left 0

  -- a stopped engine was waiting for its last block
  emptied_shape : (left owed held left' room : ℕ) (stage : Stage) → left' * G.size ≡ owed + 0 → Shape Write G.size left owed held room (phase_of stage)
      → Shape Write G.size left' owed 0 room (emptied_of stage (blocks left'))
  unfolding Shape
  emptied_shape left owed held left' room Fetching e h = tt
  emptied_shape left owed held left' room (Moving d) e h = h
  emptied_shape left owed held left' room Stopped e h = ending_shape G.size positive room Write left' owed 0 h.1 (omega arith) e

  -- "Block taken: running write, buffer full"
  pub take_keeps : (n : ℕ) (s : Now) (stage : Stage) → length s.cargo.held ≡ G.size → Inv Write G n s (phase_of stage)
      → Inv Write G n (passes s s.cargo.held []) (emptied_of stage (blocks (pred s.cargo.left)))
  take_keeps n s stage full i =
      let c : Cargo = s.cargo in
      let left : ℕ = pred c.left in
      let f = one_fewer c.left (some_left c.left i.count) in
      let e = emptied_comes n c.memory s.table c.owed left stage in
      let w = emptied_weight n left stage in
      record {
        within = omega arith;
        long = i.long;
        shared = omega (arith, i.shared, length-append c.passed c.held);
        tallied = omega (arith, i.tallied);
        kind = ap (λ (t : Trace). t.kind) e ∙ i.kind;
        rung = ap (λ (t : Trace). s.rings + t.rings) e ∙ i.rung;
        count = omega (arith, i.count);
        shape = emptied_shape c.left c.owed (length c.held) left (length c.memory) stage (omega (arith, i.count)) i.shape;
        side =
            record {
              paid = omega (arith, i.side.paid);
              spare = λ r. omega (arith, i.side.paid);
              same = i.side.same;
              carried = ap (λ (t : Trace). c.passed ++ c.held ++ named_bytes c.memory t.named) e ∙ append_assoc c.passed c.held _ ∙ i.side.carried;
            };
      }
    where
      some_left : (left : ℕ) → left * G.size ≡ s.cargo.owed + length s.cargo.held → 0 < left
      some_left zero e = absurd (omega arith)
      some_left (suc left) e = omega arith
