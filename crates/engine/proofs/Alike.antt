-- Two memories that show the same lines have the same trace: a copy that covers no line leaves the trace as it was. Assumes nothing.
use Prim.Native.Nat.{ℕ, zero, suc, ◌+◌, ◌≤◌}
use native.Mathlib.Omega.{arith}
use mathlib.Core.Path.{◌≡◌, refl, ap, ◌∙◌}
use mathlib.Core.Logic.{◌⊎◌, inl, inr}
use mathlib.Core.List.{List, [], ◌∷◌}
use mathlib.Core.Bool.{Bool, true, false}
use lib.ListN.{length, take, drop}
use lib.Seq.{paste, length-paste}
use Rattle.terms.specs.Counts.{less}
use Rattle.table.specs.Line.{line_size}
use Rattle.table.specs.Fetch.{fetch_of}
use Rattle.table.specs.Trace.{Area, Trace, add_line, add_area, add_ring, onward, along, trace_of}
use Rattle.engine.proofs.Names.{ByteCount, Fetched, Fault, Step, Data}
use Rattle.engine.specs.Demand.{Off, Clear}
use Rattle.engine.proofs.Coming.{area}
use Rattle.engine.proofs.Pasted.{paste_apart}

-- the eight bytes at an address
abbrev eight : List ℕ → ℕ → List ℕ
eight mem at = take line_size (drop at mem)

-- two memories show the same at each address of a list
abbrev pub Alike : List ℕ → List ℕ → List ℕ → Type 0
Alike mem other [] = Unit
Alike mem other (at ∷ lines) = (eight other at ≡ eight mem at) × Alike mem other lines

module _ (mem other : List ℕ) where
  module _ (rest rest' : ℕ → ByteCount → Trace)
      (same : (at : ℕ) (owed : ByteCount) → Alike mem other (rest at owed).lines → rest' at owed ≡ rest at owed) where
    onward_same : (last : Bool) (at : ℕ) (owed : ByteCount) → Alike mem other (onward rest last at owed).lines
        → onward rest' last at owed ≡ onward rest last at owed
    unfolding onward
    onward_same true at owed h = refl
    onward_same false at owed h = same at owed h

    along_same : (owed : ByteCount) (f : Fetched) → Alike mem other (along rest owed f).lines → along rest' owed f ≡ along rest owed f
    unfolding along
    along_same owed (Fault state next) h = refl
    along_same owed (Step next last int) h = ap (add_ring int) (onward_same last next owed h)
    along_same owed (Data next d) h =
        ap (λ (t : Trace). add_area d.at d.rest.0 (add_ring d.int t)) (onward_same d.last next (less owed d.rest) h)

  module _ (long : length other ≡ length mem) where
    fetch_same : (at : ℕ) (owed : ByteCount) → eight other at ≡ eight mem at → fetch_of other at owed ≡ fetch_of mem at owed
    unfolding fetch_of
    fetch_same at owed e = rw (long, e)

    -- the whole table is followed alike
    pub trace_same : (n at : ℕ) (owed : ByteCount) → Alike mem other (trace_of mem n at owed).lines → trace_of other n at owed ≡ trace_of mem n at owed
    unfolding trace_of
    trace_same zero at owed h = refl
    trace_same (suc n) at owed h =
        ap (λ (f : Fetched). add_line at (along (trace_of other n) owed f)) (fetch_same at owed h.0)
        ∙ ap (add_line at) (along_same (trace_of mem n) (trace_of other n) (trace_same n) owed (fetch_of mem at owed) h.1)

-- ---- a copy into an area that covers no line

-- what lies apart from an area lies apart from its first bytes, and from what is left of it
module _ (at k n : ℕ) where
  pub off_front : (t m : ℕ) → Off t m (area at (k + n)) → (t + m ≤ at) ⊎ (at + k ≤ t)
  off_front t m (inl h) = inl h
  off_front t m (inr h) = inr (omega arith)

  pub off_rest : (t m : ℕ) → Off t m (area at (k + n)) → Off t m (area (at + k) n)
  off_rest t m (inl h) = inl (omega arith)
  off_rest t m (inr h) = inr (omega arith)

  module _ (mem b : List ℕ) (fits : at + k ≤ length mem) (enough : k ≤ length b) (named : List Area) where
    shows_same : (lines : List ℕ) → Clear lines (area at (k + n) ∷ named) → Alike mem (paste mem at b k) lines
    shows_same [] c = tt
    shows_same (t ∷ lines) c = (paste_apart mem b at k fits enough t line_size (off_front t line_size c.0.0), shows_same lines c.1)

    -- the rest of the table is followed as before
    pub paste_same : (lines : ℕ) (last : Bool) (next : ℕ) (owed : ByteCount)
        → Clear (onward (trace_of mem lines) last next owed).lines (area at (k + n) ∷ named)
        → onward (trace_of (paste mem at b k) lines) last next owed ≡ onward (trace_of mem lines) last next owed
    paste_same lines last next owed c =
        let other : List ℕ = paste mem at b k in
        onward_same mem other (trace_of mem lines) (trace_of other lines) (trace_same mem other (length-paste mem at b k fits enough) lines) last next owed
        (shows_same (onward (trace_of mem lines) last next owed).lines c)
