-- A transfer can be driven on to its end, from wherever a run has come. Assumes nothing.
use Prim.Native.Nat.{ℕ, zero, suc, ◌+◌, ◌*◌, ◌≤◌}
use native.Mathlib.Omega.{arith}
use mathlib.Core.Path.{◌≡◌, refl, ap, ◌∙◌}
use mathlib.Core.List.{List, [], ◌∷◌, ◌++◌, append-nil}
use mathlib.Core.Bool.{Bool, true, false, cond}
use lib.ListN.{replicate, length-replicate}
use lib.Seq.{append_snoc}
use borrow.Author.Tests.{eq-eqb}
use Rattle.terms.specs.Answers.{number_of}
use Rattle.engine.specs.Transfer.{issued, runs_of}
use Rattle.engine.specs.Turn.{turn_of}
use Rattle.engine.specs.Block.{given_of, taken_of}
use Rattle.engine.specs.Run.{Event, reply, go, given, taken, World, tally, after_reply, next, run, start}
use Rattle.engine.specs.Demand.{Premise, Open, by_turn, by_reply, by_given, by_taken, Demand}
use Rattle.engine.proofs.Names.{BlockCount, Answer, Way}
use Rattle.engine.proofs.Demand3.{demand_3}

counts : (a : Answer) (n : ℕ) → number_of a ≡ 0 → tally a n ≡ suc n
counts a n e = simp (eq-eqb (number_of a) 0 e)

-- what is accepted is a step that counts
accepted : (size : ℕ) (w : World) → Open size w → (e : Event) × ((next w e).steps ≡ suc w.steps)
unfolding next
accepted size w (by_turn h) = (go, counts (turn_of w.dat w.table w.buffer w.memory).0.answer w.steps h)
accepted size w (by_reply h) = (reply, ap (λ (t : Bool). (cond t (after_reply w) w).steps) h)
accepted size w (by_given f) =
    let b : List ℕ = replicate size 0 in
    (given b, counts (given_of w.dat w.buffer b).0.answer w.steps (f b (length-replicate size 0)))
accepted size w (by_taken f) =
    let b : List ℕ = replicate size 0 in
    (taken b, counts (taken_of w.dat w.buffer b).0.answer w.steps (f b (omega (arith, length-replicate {A = ℕ} size 0))))

-- a run of a run
pub run_append : (es fs : List Event) (w : World) → run w (es ++ fs) ≡ run (run w es) fs
unfolding run
run_append [] fs w = refl
run_append (e ∷ es) fs w = run_append es fs (next w e)

module _ (way : Way) (counted : Bool) (size : ℕ) (blocks : BlockCount) (table : ℕ) (buffer mem : List ℕ) (lines : ℕ)
    (h : Premise way size blocks table buffer mem lines) where
  abbrev after : List Event → World
  after es = run (start (issued way counted size blocks) table buffer mem) es

  demand : (es : List Event) → Demand way size blocks table mem lines (after es)
  demand es = demand_3 way counted size blocks table buffer mem lines h es

  -- a run that has not ended has a step that counts
  one_more : (es : List Event) → runs_of (after es).dat ≡ true → (e : Event) × ((after (es ++ e ∷ [])).steps ≡ suc (after es).steps)
  unfolding run
  one_more es g =
      let a = accepted size (after es) ((demand es).lively g) in
      (a.0, ap (λ (w : World). w.steps) (run_append es (a.0 ∷ []) (start (issued way counted size blocks) table buffer mem)) ∙ a.1)

  -- with so many steps still to count
  drive : (fuel : ℕ) (es : List Event) → 2 * lines + 2 * blocks.0 + 1 ≤ fuel + (after es).steps → (q : Bool) → runs_of (after es).dat ≡ q
      → (fs : List Event) × (runs_of (after (es ++ fs)).dat ≡ false)
  drive zero es k false g = ([], rw (append-nil es) g)
  drive zero es k true g = let a = one_more es g in absurd (omega (arith, a.1, (demand (es ++ a.0 ∷ [])).counted))
  drive (suc fuel) es k false g = ([], rw (append-nil es) g)
  drive (suc fuel) es k true g =
      let a = one_more es g in
      let r = drive fuel (es ++ a.0 ∷ []) (omega (arith, a.1)) (runs_of (after (es ++ a.0 ∷ [])).dat) refl in
      (a.0 ∷ r.0, rw (← append_snoc es a.0 r.0) r.1)

  -- from every state that a run reaches some steps bring the transfer to its end
  pub demand_3_ends : (es : List Event) → (fs : List Event) × (runs_of (after (es ++ fs)).dat ≡ false)
  demand_3_ends es = drive (2 * lines + 2 * blocks.0 + 1) es (omega arith) (runs_of (after es).dat) refl
