-- What is still to come of a transfer: the trace that it has yet to follow, and the turns that this may take. Assumes nothing.
use Prim.Native.Nat.{ℕ, zero, suc, ◌-◌, ◌*◌, ◌≤◌}
use native.Mathlib.Nat.{zero-add, sub-zero}
use native.Mathlib.Omega.{arith}
use mathlib.Core.Path.{◌≡◌, refl, ap}
use mathlib.Core.List.{List, ◌∷◌}
use mathlib.Core.Bool.{Bool, true, false}
use Rattle.terms.specs.Counts.{bytes}
use Rattle.table.specs.Trace.{Area, Trace, ends, add_area, ring_of, add_ring, onward, along, trace_of}
use Rattle.table.specs.declared.survey.Kind.TheVariants.{Well, Error}
use Rattle.engine.specs.Transfer.{ending, settled}
use Rattle.engine.specs.Turn.{seen_table, seen_int, seen, further, done_rest}
use Rattle.engine.proofs.Names.{Fetched, Fault, Step, Data, Next, Fetch, Move, Stop, Finish, Fail, in_hand}

-- so many bytes from an address on
abbrev pub area : ℕ → ℕ → Area
area at n = record { at = at; len = n }

-- what is left of an area, before others: no area where nothing is left of it
unfoldable pub left_over : ℕ → ℕ → List Area → List Area
left_over at zero named = named
left_over at (suc n) named = area at (suc n) ∷ named

-- a trace of whose first area so much is left
abbrev pub with_over : ℕ → ℕ → Trace → Trace
with_over at n t = record { kind = t.kind; lines = t.lines; named = left_over at n t.named; rings = t.rings; after = t.after }

-- a line that is not done does not ring
no_ring : (t : Trace) → add_ring false t ≡ t
unfolding ring_of
no_ring t = simp zero-add

-- ---- the trace to come

-- with so many lines to follow, by memory, 058h, the bytes owed and where the transfer is; a line in hand has yet to ring
unfoldable pub coming : ℕ → List ℕ → ℕ → ℕ → Next → Trace
coming n mem table owed Fetch = trace_of mem n table (bytes owed)
coming n mem table owed (Move d) =
    add_area d.at d.rest.0 (add_ring d.int (onward (trace_of mem n) d.last table (bytes (owed - d.rest.0))))
coming n mem table owed Stop = ends Well table
coming n mem table owed Finish = ends Well table
coming n mem table owed (Fail state) = ends (Error state) table

-- the engine has stopped well
pub ending_comes : (n : ℕ) (mem : List ℕ) (left held table owed : ℕ) → coming n mem table owed (ending left held) ≡ ends Well table
unfolding coming ending
ending_comes n mem zero zero table owed = refl
ending_comes n mem zero (suc held) table owed = refl
ending_comes n mem (suc left) held table owed = refl

module _ (n : ℕ) (mem : List ℕ) (left held : ℕ) where
  -- a line is done
  settled_comes : (last : Bool) (table owed : ℕ)
      → coming n mem table owed (settled last owed left held) ≡ onward (trace_of mem n) last table (bytes owed)
  unfolding coming settled onward
  settled_comes true table zero = ending_comes n mem left held table 0
  settled_comes true table (suc owed) = refl
  settled_comes false table owed = refl

  -- after a fetch
  pub seen_comes : (owed : ℕ) (f : Fetched)
      → add_ring (seen_int f) (coming n mem (seen_table f) owed (seen f owed left held)) ≡ along (trace_of mem n) (bytes owed) f
  unfolding coming seen along
  seen_comes owed (Fault state next) = no_ring (ends (Error state) next)
  seen_comes owed (Step next last int) = ap (add_ring int) (settled_comes last next owed)
  seen_comes owed (Data next d) = no_ring (coming n mem next owed (Move d))

  -- after a move that leaves so much of the line in hand
  pub further_comes : (rest at : ℕ) (last int : Bool) (table owed : ℕ)
      → add_ring (done_rest rest int) (coming n mem table owed (further rest at last int owed left held))
      ≡ with_over at rest (add_ring int (onward (trace_of mem n) last table (bytes (owed - rest))))
  unfolding coming further done_rest left_over
  further_comes zero at last int table owed = rw sub-zero (ap (add_ring int) (settled_comes last table owed))
  further_comes (suc rest) at last int table owed = no_ring (coming n mem table owed (Move (in_hand (bytes (suc rest)) at last int)))

-- ---- the turns that it may take

-- two for each line to follow, and one for the line in hand
unfoldable pub weight : ℕ → Next → ℕ
weight n Fetch = 2 * n
weight n (Move d) = suc (2 * n)
weight n Stop = 0
weight n Finish = 0
weight n (Fail state) = 0

module _ (n : ℕ) where
  -- a stopped engine takes no turn
  pub ending_weight : (left held : ℕ) → weight n (ending left held) ≡ 0
  unfolding weight ending
  ending_weight zero zero = refl
  ending_weight zero (suc held) = refl
  ending_weight (suc left) held = refl

  -- a line that is done leaves those after it
  settled_weight : (last : Bool) (owed left held : ℕ) → weight n (settled last owed left held) ≤ 2 * n
  unfolding weight settled
  settled_weight true zero left held = omega (arith, ending_weight left held)
  settled_weight true (suc owed) left held = omega arith
  settled_weight false owed left held = omega arith

  -- a fetch leaves at most its line in hand
  pub seen_weight : (f : Fetched) (owed left held : ℕ) → weight n (seen f owed left held) ≤ suc (2 * n)
  unfolding weight seen
  seen_weight (Fault state next) owed left held = omega arith
  seen_weight (Step next last int) owed left held = omega (arith, settled_weight last owed left held)
  seen_weight (Data next d) owed left held = omega arith

  -- a line of which something is left takes one turn more
  pub further_weight : (rest at : ℕ) (last int : Bool) (owed left held : ℕ)
      → (weight n (further rest at last int owed left held) ≤ suc (2 * n))
      × (rest ≡ 0 → weight n (further rest at last int owed left held) ≤ 2 * n)
  unfolding weight further
  further_weight zero at last int owed left held =
      let h = settled_weight last owed left held in (omega arith, λ e. h)
  further_weight (suc rest) at last int owed left held = (omega arith, λ e. absurd (omega arith))
