-- Demand 3 over every run of the whole controller, from the world right after an accepted data command. Assumes nothing.
use Prim.Native.Nat.{ℕ, ◌+◌}
use native.Mathlib.Omega.{arith}
use mathlib.Core.Path.{◌≡◌, refl, sym, ap, ◌∙◌}
use mathlib.Core.Logic.{◌↔◌}
use mathlib.Core.List.{List}
use mathlib.Core.Bool.{true, false}
use lib.ListN.{length}
use lib.Dec.{eqb}
use Rattle.terms.specs.Answers.{number_of}
use Rattle.table.specs.Fetch.{byte_of}
use Rattle.table.specs.Trace.{Area}
use Rattle.table.specs.declared.fetch.Failure.{Failure}
use Rattle.table.specs.declared.survey.Kind.{Kind}
use Rattle.table.specs.declared.survey.Kind.TheVariants.{Well, Error, Limit}
use Rattle.table.specs.Sound.{Sound}
use Rattle.table.proofs.Sound.{well_sound, well_exactly, sound_one}
use Rattle.registers.specs.declared.block.Reply.{Reply}
use Rattle.engine.specs.Transfer.{issued, runs_of}
use Rattle.engine.specs.Run as engine
use Rattle.engine.specs.Demand as demand
use Rattle.engine.specs.Demand.{Premise, end_of, ends_as, Demand}
use Rattle.engine.specs.declared.transfer.Way.{Way}
use Rattle.engine.specs.declared.transfer.Dat.TheVariants.{Free, Halted}
use Rattle.engine.specs.declared.transfer.Outcome.TheVariants.{Completes}
use Rattle.engine.specs.Block.{Passed}
use Rattle.engine.proofs.Demand3.{demand_3}
use Rattle.engine.proofs.Drive.{run_append, demand_3_ends}
use Rattle.engine.proofs.Ends.{completed}
use Rattle.controller.specs.Card.{respond_to, respond_of}
use Rattle.controller.specs.Data.{passed_as}
use Rattle.controller.specs.Slot.{Stepped}
use Rattle.controller.specs.Steps.{Step, response, World, step_of}
use Rattle.controller.specs.declared.slot.Command.{Command}
use Rattle.controller.specs.declared.slot.Slot.{Slot}
use Rattle.controller.proofs.Causes.{by_test}
use Rattle.demands.specs.Run.{deeds, reached, turns_done, passed, running}
use Rattle.demands.specs.Issued.{asked, blocks_of, size_of, way_of, owed_of, table_of, trace_at}
use Rattle.demands.specs.Granted.{Granted, AllFair}
use Rattle.demands.specs.Whole.{Open, by_turn, by_response, by_given, by_taken, Completed, Driven, Whole}
use Rattle.demands.proofs.Sides.{awaits_too}
use Rattle.demands.proofs.Begun.{Begun, begun}
use Rattle.demands.proofs.Follows.{Follows}
use Rattle.demands.proofs.Mirrors.{follows, mirrors}

-- ---- what is open to the engine is open to the controller

-- a block event is answered as the engine answers it
same_answer : (s : Slot) (p : Passed) → (passed_as s p).answer ≡ p.answer
same_answer s p = by_test (λ (x : Stepped). x.answer ≡ p.answer) (eqb (number_of p.answer) 0) (λ e. refl) (λ e. refl)

module _ (w : World) (v : engine.World) (f : Follows w v) where
  answers : engine.awaits_of v.dat ≡ true → (words : Reply) → number_of (step_of w (response 0 words)).answer ≡ 0
  unfolding step_of respond_of
  answers a words =
      let (u, e) = f.waits (awaits_too w.slot.dat (ap engine.awaits_of f.dat ∙ a)) in
      ap (λ (c : Command). number_of (respond_to c w.slot 0 words).answer) e

  -- "a turn, the response or a block is always accepted"
  opens : (size : ℕ) → demand.Open size v → Open size w
  unfolding step_of
  opens size (demand.by_turn h) = by_turn (rw (f.dat, f.table, f.buffer, f.memory) h)
  opens size (demand.by_reply h) = by_response (answers h)
  opens size (demand.by_given g) = by_given (λ block e. rw (same_answer, f.dat, f.buffer) (g block e))
  opens size (demand.by_taken g) = by_taken (λ room e. rw (same_answer, f.dat, f.buffer) (g room e))

-- ---- how an end stands

-- DAT is free only after a table that goes well
pub free_well : (way : Way) (k : Kind) → ends_as way k ≡ Free → k ≡ Well
free_well way Well e = refl
free_well way (Error f) e = cc
free_well way Limit e = cc

module _ (w : World) (lines : ℕ) (h : Granted w lines) where
  abbrev start : Begun w
  start = begun w h.issued

  -- the engine's own world when the command has just issued
  abbrev pub first : engine.World
  first = engine.start (issued (way_of w) (asked w).multi (size_of w) (blocks_of w)) (table_of w) w.buffer w.memory

  pub premise : Premise (way_of w) (size_of w) (blocks_of w) (table_of w) w.buffer w.memory lines
  premise =
      record {
        positive = start.positive;
        small = omega (arith, start.small, h.buffer);
        permitted = h.permitted;
        reaches = h.reaches;
        clear = h.clear;
      }

  pub starts : Follows w first
  starts =
      record {
        dat = start.dat;
        table = refl;
        buffer = refl;
        memory = refl;
        waits = λ a. start.waits;
        silent = λ r. refl;
        fault = λ f e. cc;
        carrying = refl;
      }

  module _ (es : List Step) (fair : AllFair (deeds w es)) where
    abbrev lifted : (evs : List engine.Event) × Follows (reached w es) (engine.run first evs)
        × ((engine.run first evs).turns ≡ turns_done (deeds w es) + 0) × ((engine.run first evs).passed ≡ passed (deeds w es))
    lifted = follows w first es starts fair

    abbrev pub final : engine.World
    final = engine.run first lifted.0

    -- the world that a run reaches, beside the engine's
    pub beside : Follows (reached w es) final
    beside = lifted.1

    -- of which demand 3 holds
    pub demanded : Demand (way_of w) (size_of w) (blocks_of w) (table_of w) w.memory lines final
    demanded = demand_3 (way_of w) (asked w).multi (size_of w) (blocks_of w) (table_of w) w.buffer w.memory lines premise lifted.0

    -- a transfer that has ended here has ended there
    over : running (reached w es) ≡ false → runs_of final.dat ≡ false
    over g = sym (ap runs_of beside.dat) ∙ g

    -- completed, and so ended, and so told
    done : Completed (reached w es) → running (reached w es) ≡ false
    done c = ap runs_of c

    table_well : Completed (reached w es) → (trace_at w lines).kind ≡ Well
    table_well c = free_well (way_of w) (trace_at w lines).kind (sym (demanded.stands (over (done c))) ∙ sym beside.dat ∙ c)

    told : Completed (reached w es) → final.told ≡ Completes
    told c = demanded.outcome (over (done c)) ∙ ap end_of (table_well c)

    -- "a turn, the response or a block is always accepted"
    progress : running (reached w es) ≡ true → Open (size_of w) (reached w es)
    progress r = opens (reached w es) final beside (size_of w) (demanded.lively (sym (ap runs_of beside.dat) ∙ r))

    -- "Driven to its end"
    driven : Driven (reached w es)
    driven =
        let (fs, g) = demand_3_ends (way_of w) (asked w).multi (size_of w) (blocks_of w) (table_of w) w.buffer w.memory lines premise lifted.0 in
        let (steps, ok, f) = mirrors (reached w es) final fs beside in
        (steps, ok, ap runs_of f.dat ∙ rw (run_append lifted.0 fs first) at g)

    -- "it completes exactly when each followed line is sound and the named bytes lie in memory and equal block size times B"
    completes : running (reached w es) ≡ false
        → Completed (reached w es) ↔ ((named : List Area) × Sound w.memory lines (table_of w) (owed_of w) named)
    completes g =
        let exact = well_exactly w.memory lines (table_of w) (owed_of w) in
        ((λ c. exact.0 (table_well c)), λ s. beside.dat ∙ demanded.stands (over g) ∙ ap (ends_as (way_of w)) (exact.1 s))

    -- "otherwise it ends in the ADMA error that the table gives"
    fails : running (reached w es) ≡ false → (Completed (reached w es) → ⊥) → (k : Kind) → (trace_at w lines).kind ≡ k
        → (f : Failure) × ((trace_at w lines).kind ≡ Error f) × ((reached w es).slot.dat ≡ Halted (way_of w))
        × ((reached w es).slot.registers.adma.fault ≡ byte_of f)
    fails g not Well e = absurd (not (beside.dat ∙ demanded.stands (over g) ∙ ap (ends_as (way_of w)) e))
    fails g not (Error f) e = (
      f,
      e,
      beside.dat ∙ demanded.stands (over g) ∙ ap (ends_as (way_of w)) e,
      beside.fault f (demanded.outcome (over g) ∙ ap end_of e),
    )
    fails g not Limit e = absurd (h.reaches e)

    -- "with those bytes carried in order"
    bytes : Completed (reached w es) → (named : List Area) → Sound w.memory lines (table_of w) (owed_of w) named
        → demand.Delivered (way_of w) w.memory named (reached w es).memory (passed (deeds w es))
    bytes c named s =
        let own = well_sound w.memory lines (table_of w) (owed_of w) (table_well c) in
        rw (sound_one w.memory lines (table_of w) (owed_of w) named (trace_at w lines).named s own, beside.memory, ← lifted.3)
        (completed (way_of w) (asked w).multi (size_of w) (blocks_of w) (table_of w) w.buffer w.memory lines premise lifted.0 (told c))

    -- demand 3
    pub demand_3_whole : Whole w lines es
    demand_3_whole =
        record {
          bound = omega (arith, demanded.bounded, lifted.2);
          progress = progress;
          driven = driven;
          completes = completes;
          fails = λ g not. fails g not (trace_at w lines).kind refl;
          blocks = λ c. ap length (sym lifted.3) ∙ (demanded.whole (told c)).1;
          bytes = bytes;
          carried = λ g. rw (beside.memory, ← lifted.3) (demanded.carried (over g));
          kept = rw beside.memory demanded.kept;
        }
