-- A table goes well exactly when it is sound for the bytes owed, and its trace then names its data. Assumes nothing.
use Prim.Native.Nat.{ℕ, zero, suc, ◌+◌, ◌≤◌}
use native.Mathlib.Omega.{arith}
use mathlib.Core.Path.{◌≡◌, refl, ap}
use mathlib.Core.Logic.{◌↔◌, ◌≢◌}
use mathlib.Core.List.{List, [], ◌∷◌}
use mathlib.Core.Bool.{Bool, true, false, cond}
use mathlib.Core.Option.{Option, none, some}
use lib.ListN.{length}
use lib.Dec.{ltb}
use borrow.Author.Tests.{leb-true, leb-false, ltb-true, ltb-false}
use Rattle.terms.specs.Counts.{bytes, less}
use Rattle.terms.specs.declared.ByteCount.{ByteCount}
use Rattle.table.specs.Memory.{in_memory}
use Rattle.table.specs.Line.{line_bytes, length_of, address_of, flags_of, act_of}
use Rattle.table.specs.Fetch.{next_line, data_of, tran_of, acted_of, fetch_of}
use Rattle.table.specs.declared.fetch.Failure.TheVariants as failure
use Rattle.table.specs.declared.fetch.Failure.{Failure}
use Rattle.table.specs.Trace.{Area, Trace, ends, add_ring, finish_kind, onward, along, trace_of, total}
use Rattle.table.specs.declared.survey.Kind.TheVariants.{Well, Error, Limit}
use Rattle.table.specs.Sound.{areas_of, next_of, joined, beyond, linked, data_of_table, Inside, Sound}
use Rattle.table.specs.declared.line.Act.{Act}
use Rattle.table.specs.declared.line.Act.TheVariants.{Tran, Link, Other}
use Rattle.table.specs.declared.fetch.Fetched.TheVariants.{Fault}

-- data of a table that is there, lies in a memory of so many bytes, and is just what is owed
abbrev Fits : ℕ → ByteCount → Option (List Area) → List Area → Type 0
Fits size owed says named = (says ≡ some named) × Inside size named × (total named ≡ owed)

-- a trace goes well exactly when the data fits, and then names it
record Agrees (size : ℕ) (owed : ByteCount) (t : Trace) (says : Option (List Area)) : Type 0 where
  fits : t.kind ≡ Well → Fits size owed says t.named
  goes : (named : List Area) → Fits size owed says named → t.kind ≡ Well

-- data that is not there is no data; an error and the limit are not well
not_there : (named : List Area) → none ≢ some named
not_there named e = let z : ◌≡◌ {A = ℕ} 0 1 = cc in omega arith

fault_well : (state : Failure) → Error state ≢ Well
fault_well state e = let z : ◌≡◌ {A = ℕ} 0 1 = cc in omega arith

limit_well : Limit ≢ Well
limit_well e = let z : ◌≡◌ {A = ℕ} 0 1 = cc in omega arith

-- equal counters count as many bytes
as_many : {a b : ByteCount} → a ≡ b → a.0 ≡ b.0
as_many e = ap (λ (c : ByteCount). c.0) e

-- a line that names no data adds none
none_joined : (says : Option (List Area)) → joined [] says ≡ says
unfolding joined
none_joined none = refl
none_joined (some r) = refl

module _ (size : ℕ) where
  -- Int has no say
  ring_agrees : (owed : ByteCount) (int : Bool) {t : Trace} {says : Option (List Area)} → Agrees size owed t says → Agrees size owed (add_ring int t) says
  ring_agrees owed int a = record { fits = a.fits; goes = a.goes }

  -- an error agrees with data that does not fit
  fault_agrees : (owed : ByteCount) (state : Failure) (at : ℕ) (says : Option (List Area)) → ((named : List Area) → Fits size owed says named → ⊥)
      → Agrees size owed (ends (Error state) at) says
  fault_agrees owed state at says h = record { fits = λ w. absurd (fault_well state w); goes = λ named f. absurd (h named f) }

  -- the End line is done: all is well if no more is owed
  end_agrees : (n at : ℕ) → Agrees size (bytes n) (ends (finish_kind n) at) (some [])
  unfolding total
  end_agrees zero at = record { fits = λ w. (refl, tt, refl); goes = λ named f. refl }
  end_agrees (suc n) at = fault_agrees (bytes (suc n)) failure.Owing at (some []) (λ named f.
      let e : named ≡ [] = cc f.0 in
      let z : 0 ≡ suc n = as_many (rw e at f.2) in
      omega arith)

  -- where a line's area and the data after it fit, the area lies in memory, is owed, and the data after it fits what is left
  area_fits : (owed : ByteCount) (a : Area) (says : Option (List Area)) (named : List Area) → Fits size owed (joined (a ∷ []) says) named
      → (a.at + a.len ≤ size) × (a.len ≤ owed.0) × ((r : List Area) × Fits size (less owed (bytes a.len)) says r)
  unfolding joined total
  area_fits owed a none named f = absurd (not_there named f.0)
  area_fits owed a (some r) named f =
      let e : named ≡ a ∷ r = cc f.0 in
      let i : Inside size (a ∷ r) = rw e at f.1 in
      let n : a.len + (total r).0 ≡ owed.0 = as_many (rw e at f.2) in
      (i.0, omega arith, (r, (refl, i.1, ap bytes (omega arith))))

  -- a rest of the trace that agrees with the rest of the table, wherever it follows
  module _ (rest : ℕ → ByteCount → Trace) (says : ℕ → Option (List Area))
      (follows : (next : ℕ) (left : ByteCount) → Agrees size left (rest next left) (says next)) where
    -- after a line, with End or without
    onward_agrees : (last : Bool) (next : ℕ) (owed : ByteCount) → Agrees size owed (onward rest last next owed) (beyond says last next)
    unfolding onward beyond
    onward_agrees true next owed = end_agrees owed.0 next
    onward_agrees false next owed = follows next owed

    -- a Tran line: its area lies in memory and is owed, or it is an error
    tran_agrees : (l : List ℕ) (next : ℕ) (owed : ByteCount)
        → Agrees size owed (along rest owed (tran_of l next size owed)) (joined (areas_of l Tran) (beyond says (flags_of l).end next))
    unfolding along joined areas_of total
    tran_agrees l next owed = go (ltb owed.0 (length_of l)) (in_memory size (address_of l) (length_of l)) refl refl
      where
        onto : Option (List Area)
        onto = beyond says (flags_of l).end next

        area : Area
        area = record { at = address_of l; len = length_of l }

        wrong : (state : Failure) → (address_of l + length_of l ≤ size → length_of l ≤ owed.0 → ⊥)
            → Agrees size owed (ends (Error state) next) (joined (area ∷ []) onto)
        wrong state h =
            fault_agrees owed state next (joined (area ∷ []) onto) (λ named f. let s = area_fits owed area onto named f in h s.0 s.1)

        go : (t u : Bool) → ltb owed.0 (length_of l) ≡ t → in_memory size (address_of l) (length_of l) ≡ u
            → Agrees size owed (along rest owed (cond t (Fault failure.TooLong next) (cond u (data_of l next) (Fault failure.Beyond next))))
            (joined (area ∷ []) onto)
        go true u long fit = wrong failure.TooLong (λ i o. omega (arith, ltb-true owed.0 (length_of l) long))
        go false false long fit = wrong failure.Beyond (λ i o. omega (arith, leb-false (address_of l + length_of l) size fit))
        go false true long fit =
            let a = onward_agrees (flags_of l).end next (less owed (bytes (length_of l))) in
            let h = ltb-false owed.0 (length_of l) long in
            record {
              fits = λ w. let f = a.fits w in (rw f.0, (leb-true _ _ fit, f.1), ap bytes (omega (arith, as_many f.2)));
              goes = λ named f. let s = area_fits owed area onto named f in a.goes s.2.0 s.2.1;
            }

    -- a line with Valid 1, by its Act
    acted_agrees : (act : Act) (l : List ℕ) (at : ℕ) (owed : ByteCount)
        → Agrees size owed (along rest owed (acted_of act l at size owed)) (joined (areas_of l act) (beyond says (flags_of l).end (next_of at l act)))
    unfolding along areas_of next_of
    acted_agrees Tran l at owed = tran_agrees l (next_line at) owed
    acted_agrees Link l at owed = rw none_joined (ring_agrees owed (flags_of l).int (onward_agrees (flags_of l).end (address_of l) owed))
    acted_agrees Other l at owed = rw none_joined (ring_agrees owed (flags_of l).int (onward_agrees (flags_of l).end (next_line at) owed))

    -- a line, with Valid or without
    line_agrees : (l : List ℕ) (at : ℕ) (owed : ByteCount) (t : Bool)
        → Agrees size owed (along rest owed (cond t (acted_of (act_of (flags_of l)) l at size owed) (Fault failure.Unsound at))) (linked says at l t)
    unfolding along linked
    line_agrees l at owed true = acted_agrees (act_of (flags_of l)) l at owed
    line_agrees l at owed false = fault_agrees owed failure.Unsound at none (λ named f. not_there named f.0)

-- a table's trace and what the table says of itself
trace_agrees : (mem : List ℕ) (n at : ℕ) (owed : ByteCount) → Agrees (length mem) owed (trace_of mem n at owed) (data_of_table mem n at)
unfolding trace_of data_of_table fetch_of
trace_agrees mem zero at owed = record { fits = λ w. absurd (limit_well w); goes = λ named f. absurd (not_there named f.0) }
trace_agrees mem (suc n) at owed =
    let a = line_agrees (length mem) (trace_of mem n) (data_of_table mem n) (trace_agrees mem n) (line_bytes mem at) at owed (flags_of (line_bytes mem at)).valid in
    record { fits = a.fits; goes = a.goes }

module _ (mem : List ℕ) (n at : ℕ) (owed : ByteCount) where
  -- a table that goes well is sound for the bytes owed, and the trace names its data
  pub well_sound : (trace_of mem n at owed).kind ≡ Well → Sound mem n at owed (trace_of mem n at owed).named
  well_sound w = let f = (trace_agrees mem n at owed).fits w in record { there = f.0; inside = f.1; adds = f.2 }

  -- "well", stated on the table itself
  pub well_exactly : ((trace_of mem n at owed).kind ≡ Well) ↔ ((named : List Area) × Sound mem n at owed named)
  well_exactly = (
    λ w. ((trace_of mem n at owed).named, well_sound w),
    λ s. (trace_agrees mem n at owed).goes s.0 (s.1.there, s.1.inside, s.1.adds),
  )

  -- the data of a sound table is one list
  pub sound_one : (named other : List Area) → Sound mem n at owed named → Sound mem n at owed other → named ≡ other
  sound_one named other s o = cc
