-- A transfer completes exactly when its table is sound, and has then carried the named bytes; else it fails as the table says. Assumes nothing.
use Prim.Native.Nat.{ℕ, ◌≤◌}
use native.Mathlib.Omega.{arith}
use mathlib.Core.Path.{◌≡◌, refl, sym, ap, ap₂, ◌∙◌}
use mathlib.Core.Logic.{◌↔◌}
use mathlib.Core.List.{List, [], ◌∷◌, ◌++◌, append-nil}
use mathlib.Core.Bool.{Bool, false}
use lib.ListN.{length, take, drop, length-append, length-drop}
use lib.Seq.{paste, length-paste, take-add, take_all, length-take-le}
use Rattle.terms.specs.Counts.{times}
use Rattle.table.specs.declared.fetch.Failure.{Failure}
use Rattle.table.specs.Trace.{Area, Trace, trace_of, total, named_bytes, fill}
use Rattle.table.specs.declared.survey.Kind.{Kind}
use Rattle.table.specs.declared.survey.Kind.TheVariants.{Well, Error, Limit}
use Rattle.table.specs.Sound.{Inside, Sound}
use Rattle.table.proofs.Sound.{well_sound, well_exactly}
use Rattle.engine.specs.Transfer.{issued, runs_of}
use Rattle.engine.specs.Run.{Event, World, run, start}
use Rattle.engine.specs.Demand.{Beside, Separate, Premise, end_of, Carried, Demand, Delivered}
use Rattle.engine.proofs.Names.{BlockCount, ByteCount, Way, Read, Write, Completes, Fails}
use Rattle.engine.proofs.Pasted.{paste_there, paste_apart}
use Rattle.engine.proofs.Demand3.{demand_3}

-- ---- the bytes that areas name, and a memory whose areas are filled

-- in memory, they are as many as the areas say
named_length : (mem : List ℕ) (named : List Area) → Inside (length mem) named → length (named_bytes mem named) ≡ (total named).0
unfolding named_bytes total
named_length mem [] h = refl
named_length mem (a ∷ r) h =
    rw (
      length-append (take a.len (drop a.at mem)) (named_bytes mem r),
      length-take-le a.len (drop a.at mem) (omega (arith, length-drop a.at mem)),
      named_length mem r h.1,
    )

-- an area that lies beside the others is not touched
fill_beside : (mem : List ℕ) (named : List Area) (b : List ℕ) (a : Area) → Inside (length mem) named → (total named).0 ≤ length b → Beside a named
    → take a.len (drop a.at (fill mem named b)) ≡ take a.len (drop a.at mem)
unfolding fill total
fill_beside mem [] b a h k o = refl
fill_beside mem (d ∷ r) b a h k o =
    let e : length (paste mem d.at b d.len) ≡ length mem = length-paste mem d.at b d.len h.0 (omega arith) in
    fill_beside (paste mem d.at b d.len) r (drop d.len b) a (rw e h.1) (omega (arith, length-drop d.len b)) o.1
    ∙ paste_apart mem b d.at d.len h.0 (omega arith) a.at a.len o.0

-- areas that lie apart hold what they were filled with
fill_there : (mem : List ℕ) (named : List Area) (b : List ℕ) → Inside (length mem) named → (total named).0 ≤ length b → Separate named
    → named_bytes (fill mem named b) named ≡ take (total named).0 b
unfolding fill named_bytes total
fill_there mem [] b h k s = refl
fill_there mem (a ∷ r) b h k s =
    let m : List ℕ = paste mem a.at b a.len in
    let e : length m ≡ length mem = length-paste mem a.at b a.len h.0 (omega arith) in
    let i : Inside (length m) r = rw e h.1 in
    let l : (total r).0 ≤ length (drop a.len b) = omega (arith, length-drop a.len b) in
    rw (take-add a.len (total r).0 b)
    (ap₂ (λ (x y : List ℕ). x ++ y)
    (fill_beside m r (drop a.len b) a i l s.0 ∙ paste_there mem b a.at a.len h.0 (omega arith))
    (fill_there m r (drop a.len b) i l s.1))

-- ---- a transfer that has ended

-- only a table that goes well ends in Transfer Complete
pub end_well : (k : Kind) → end_of k ≡ Completes → k ≡ Well
end_well Well e = refl
end_well (Error state) e = cc
end_well Limit e = cc

-- a list whose first part is as long as the whole is that part
whole_first : (p r l : List ℕ) → p ++ r ≡ l → length p ≡ length l → p ≡ l
whole_first p [] l e n = sym (append-nil p) ∙ e
whole_first p (a ∷ r) l e n = absurd (omega (arith, length-append p (a ∷ r), ap length e))

module _ (way : Way) (counted : Bool) (size : ℕ) (blocks : BlockCount) (table : ℕ) (buffer mem : List ℕ) (lines : ℕ)
    (h : Premise way size blocks table buffer mem lines) (es : List Event) where
  abbrev final : World
  final = run (start (issued way counted size blocks) table buffer mem) es

  abbrev trace : Trace
  trace = trace_of mem lines table (times blocks size)

  demand : Demand way size blocks table mem lines final
  demand = demand_3 way counted size blocks table buffer mem lines h es

  -- a transfer that has ended has completed exactly when its table is sound for its bytes
  pub completes_exactly : runs_of final.dat ≡ false → (final.told ≡ Completes) ↔ ((named : List Area) × Sound mem lines table (times blocks size) named)
  completes_exactly g =
      let w = well_exactly mem lines table (times blocks size) in
      ((λ e. w.0 (end_well trace.kind (sym (demand.outcome g) ∙ e))), (λ s. demand.outcome g ∙ ap end_of (w.1 s)))

  -- otherwise it ended in the error that the table gives
  pub fails_so : runs_of final.dat ≡ false → (state : Failure) → trace.kind ≡ Error state → final.told ≡ Fails state
  fails_so g state e = demand.outcome g ∙ ap end_of e

  -- a transfer that has completed found its table sound
  found_sound : final.told ≡ Completes → Sound mem lines table (times blocks size) trace.named
  found_sound e = well_sound mem lines table (times blocks size) (end_well trace.kind (sym (demand.outcome (ap runs_of (demand.whole e).0)) ∙ e))

  delivers : (way : Way) → final.told ≡ Completes → Carried way size mem trace.named final.memory final.passed
      → Delivered way mem trace.named final.memory final.passed
  delivers Write e carried =
      let s = found_sound e in
      whole_first final.passed carried.0 (named_bytes mem trace.named) carried.2
      ((demand.whole e).1 ∙ sym (named_length mem trace.named s.inside ∙ ap (λ (b : ByteCount). b.0) s.adds))
  delivers Read e carried =
      let s = found_sound e in
      let n : (total trace.named).0 ≡ length final.passed = ap (λ (b : ByteCount). b.0) s.adds ∙ sym (demand.whole e).1 in
      λ apart. ap (λ (m : List ℕ). named_bytes m trace.named) carried
      ∙ fill_there mem trace.named final.passed s.inside (omega arith) apart
      ∙ take_all (total trace.named).0 final.passed (omega arith)

  -- "the blocks taken, joined, are the named bytes in order", and on a read the named data holds the blocks given
  pub completed : final.told ≡ Completes → Delivered way mem trace.named final.memory final.passed
  completed e = delivers way e (demand.carried (ap runs_of (demand.whole e).0))
