-- A boot check that says yes means that the transfer completes. Assumes nothing.
use Prim.Native.Nat.{ℕ, ◌≤◌, ◌<◌}
use native.Mathlib.Omega.{arith}
use mathlib.Core.Path.{◌≡◌, sym, ap, ◌∙◌}
use mathlib.Core.Logic.{◌↔◌, ◌≢◌}
use mathlib.Core.List.{List, ◌++◌}
use mathlib.Core.Bool.{Bool, true, false}
use lib.ListN.{length}
use Rattle.terms.specs.Counts.{times}
use Rattle.table.specs.Line.{aligned}
use Rattle.table.specs.Trace.{trace_of}
use Rattle.table.specs.declared.survey.Kind.{Kind}
use Rattle.table.specs.declared.survey.Kind.TheVariants.{Well, Limit}
use Rattle.table.specs.Survey.{default_limit, boot_of, yes_of}
use Rattle.table.proofs.Exactly.{boot_yes}
use Rattle.engine.specs.Transfer.{issued, runs_of}
use Rattle.engine.specs.Run.{Event, World, run, start}
use Rattle.engine.specs.Demand.{Uncovered, Premise, end_of, Delivered}
use Rattle.engine.proofs.Names.{BlockCount, Way, Completes}
use Rattle.engine.proofs.Demand3.{demand_3}
use Rattle.engine.proofs.Drive.{demand_3_ends}
use Rattle.engine.proofs.Ends.{end_well, completed}

well_limit : (k : Kind) → k ≡ Well → k ≢ Limit
well_limit k e f = let z : ◌≡◌ {A = ℕ} 0 1 = cc in omega arith

module _ (way : Way) (counted : Bool) (size : ℕ) (blocks : BlockCount) (at : ℕ) (buffer mem : List ℕ) where
  -- a transfer whose 058h is where the boot check started
  abbrev after : List Event → World
  after es = run (start (issued way counted size blocks) (aligned at) buffer mem) es

  -- of a table that reaches End or a fault within 64 lines, the boot check says yes exactly when the transfer completes
  pub boot_exactly : Premise way size blocks (aligned at) buffer mem default_limit → (es : List Event) → runs_of (after es).dat ≡ false
      → (yes_of (boot_of mem at (times blocks size)) ≡ true) ↔ ((after es).told ≡ Completes)
  boot_exactly h es g =
      let d = demand_3 way counted size blocks (aligned at) buffer mem default_limit h es in
      let b = boot_yes mem at (times blocks size) in
      ((λ y. d.outcome g ∙ ap end_of (b.0 y).1), (λ e. b.1 (h.permitted, end_well _ (sym (d.outcome g) ∙ e))))

  module _ (positive : 0 < size) (small : size ≤ length buffer) (clear : Uncovered way (trace_of mem default_limit (aligned at) (times blocks size)))
      (yes : yes_of (boot_of mem at (times blocks size)) ≡ true) where
    -- a yes is all that demand 3 asks of memory and table
    pub boot_premise : Premise way size blocks (aligned at) buffer mem default_limit
    boot_premise =
        let b = (boot_yes mem at (times blocks size)).0 yes in
        record { positive = positive; small = small; permitted = b.0; reaches = well_limit _ b.1; clear = clear }

    -- every run that has ended has completed
    pub boot_completes : (es : List Event) → runs_of (after es).dat ≡ false → (after es).told ≡ Completes
    boot_completes es g = (boot_exactly boot_premise es g).0 yes

    -- and from wherever a run has come it can be driven on to complete
    pub boot_ends : (es : List Event) → (fs : List Event) × ((after (es ++ fs)).told ≡ Completes)
    boot_ends es =
        let r = demand_3_ends way counted size blocks (aligned at) buffer mem default_limit boot_premise es in
        (r.0, boot_completes (es ++ r.0) r.1)

    -- with the named bytes carried
    pub boot_delivers : (es : List Event) → runs_of (after es).dat ≡ false
        → Delivered way mem (trace_of mem default_limit (aligned at) (times blocks size)).named (after es).memory (after es).passed
    boot_delivers es g = completed way counted size blocks (aligned at) buffer mem default_limit boot_premise es (boot_completes es g)
