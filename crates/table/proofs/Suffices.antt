-- A limit that suffices gives what every larger one gives; how many lines are tried, and how many bytes they name. Assumes nothing.
use Prim.Native.Nat.{ℕ, zero, suc, ◌+◌, ◌-◌, ◌≤◌}
use native.Mathlib.Nat.{suc-add}
use native.Mathlib.Omega.{arith}
use mathlib.Core.Path.{◌≡◌, refl, sym, ap}
use mathlib.Core.Logic.{◌≢◌}
use mathlib.Core.List.{List}
use mathlib.Core.Bool.{Bool, true, false, cond}
use lib.ListN.{length}
use lib.Dec.{leb}
use borrow.Author.Tests.{leb-true, leb-false}
use Rattle.terms.specs.Counts.{less}
use Rattle.std.specs.Prelude.{Result, Ok, Err}
use Rattle.terms.specs.declared.Refusal.{Refusal}
use Rattle.terms.specs.declared.Refusal.TheVariants.{MemoryTooLarge}
use Rattle.terms.specs.declared.ByteCount.{ByteCount}
use Rattle.table.specs.Memory.{too_large}
use Rattle.table.specs.Line.{aligned}
use Rattle.table.specs.Fetch.{fetch_of}
use Rattle.table.specs.Trace.{Trace, ends, add_line, add_area, add_ring, finish_kind, onward, along, trace_of, total}
use Rattle.table.specs.declared.survey.Kind.{Kind}
use Rattle.table.specs.declared.survey.Kind.TheVariants.{Error, Limit}
use Rattle.table.specs.Survey.{kind_of, report_of, allowed_of, limit_over, survey_trace, figures_of, survey_of}
use Rattle.table.specs.declared.fetch.Fetched.{Fetched}
use Rattle.table.specs.declared.fetch.Fetched.TheVariants.{Fault, Step, Data}
use Rattle.table.specs.declared.fetch.Failure.{Failure}
use Rattle.table.specs.declared.survey.Report.{Report}
use Rattle.table.proofs.Laws.{Good, fetch_good}

-- a longer rest of the trace that is the same wherever the rest does not end by the limit
module _ (rest longer : ℕ → ByteCount → Trace)
    (same : (next : ℕ) (left : ByteCount) → (rest next left).kind ≢ Limit → longer next left ≡ rest next left) where
  onward_same : (last : Bool) (next : ℕ) (owed : ByteCount) → (onward rest last next owed).kind ≢ Limit
      → onward longer last next owed ≡ onward rest last next owed
  unfolding onward
  onward_same true next owed h = refl
  onward_same false next owed h = same next owed h

  along_same : (owed : ByteCount) (f : Fetched) → (along rest owed f).kind ≢ Limit → along longer owed f ≡ along rest owed f
  unfolding along
  along_same owed (Fault state next) h = refl
  along_same owed (Step next last int) h = ap (add_ring int) (onward_same last next owed h)
  along_same owed (Data next d) h =
      ap (λ (t : Trace). add_area d.at d.rest.0 (add_ring d.int t)) (onward_same d.last next (less owed d.rest) h)

-- a limit under which the table ends or fails gives what every larger one gives
pub larger_limit : (mem : List ℕ) (n k at : ℕ) (owed : ByteCount) → (trace_of mem n at owed).kind ≢ Limit → trace_of mem (n + k) at owed ≡ trace_of mem n at owed
unfolding trace_of
larger_limit mem zero k at owed h = absurd (h refl)
larger_limit mem (suc n) k at owed h =
    rw suc-add (ap (add_line at) (along_same (trace_of mem n) (trace_of mem (n + k)) (larger_limit mem n k) owed (fetch_of mem at owed) h))

-- any two limits that both suffice give the same trace
pub limits_agree : (mem : List ℕ) (n m at : ℕ) (owed : ByteCount) → (trace_of mem n at owed).kind ≢ Limit → (trace_of mem m at owed).kind ≢ Limit
    → trace_of mem n at owed ≡ trace_of mem m at owed
limits_agree mem n m at owed hn hm = go (leb n m) refl
  where
    go : (t : Bool) → leb n m ≡ t → trace_of mem n at owed ≡ trace_of mem m at owed
    go true e = let s : m ≡ n + (m - n) = omega (arith, leb-true n m e) in rw s (sym (larger_limit mem n (m - n) at owed hn))
    go false e = let s : n ≡ m + (n - m) = omega (arith, leb-false n m e) in rw s (larger_limit mem m (n - m) at owed hm)

-- two surveys with allowed limits and of kinds other than 2 are equal
pub surveys_agree : (mem : List ℕ) (start a b : ℕ) (owed : ByteCount) → limit_over a ≡ false → limit_over b ≡ false
    → (figures_of (survey_of mem start owed a)).kind ≢ 2 → (figures_of (survey_of mem start owed b)).kind ≢ 2
    → survey_of mem start owed a ≡ survey_of mem start owed b
surveys_agree mem start a b owed p q = rw (p, q) (go (too_large mem))
  where
    done : Trace → Result Report Refusal
    done t = Ok (report_of t)

    said : Bool → ℕ → Result Report Refusal
    said t n = cond t (Err MemoryTooLarge) (done (survey_trace mem start owed n))

    go : (t : Bool) → (figures_of (said t a)).kind ≢ 2 → (figures_of (said t b)).kind ≢ 2 → said t a ≡ said t b
    go true h k = refl
    go false h k =
        ap done (limits_agree mem (allowed_of a) (allowed_of b) (aligned start) owed (λ e. h (ap kind_of e)) (λ e. k (ap kind_of e)))

-- neither the End line nor an error is the limit
finish_limit : (n : ℕ) → finish_kind n ≢ Limit
finish_limit zero e = let z : ◌≡◌ {A = ℕ} 0 1 = cc in omega arith
finish_limit (suc n) e = let z : ◌≡◌ {A = ℕ} 0 1 = cc in omega arith

fault_limit : (state : Failure) → Error state ≢ Limit
fault_limit state e = let z : ◌≡◌ {A = ℕ} 0 1 = cc in omega arith

-- what holds of a trace that stops at once, and of one with one more ring, area or line if it holds of what follows, holds of every trace
module _ (P : ℕ → ByteCount → Trace → Type 0)
    (none_left : (at : ℕ) (owed : ByteCount) → P 0 owed (ends Limit at))
    (stops : (n : ℕ) (owed : ByteCount) (k : Kind) (at : ℕ) → k ≢ Limit → P n owed (ends k at))
    (with-ring : (n : ℕ) (owed : ByteCount) (int : Bool) (t : Trace) → P n owed t → P n owed (add_ring int t))
    (with-area : (n : ℕ) (owed m : ByteCount) (at : ℕ) (t : Trace) → m.0 ≤ owed.0 → P n (less owed m) t → P n owed (add_area at m.0 t))
    (with-line : (n : ℕ) (owed : ByteCount) (at : ℕ) (t : Trace) → P n owed t → P (suc n) owed (add_line at t)) where
  module _ (n : ℕ) (rest : ℕ → ByteCount → Trace) (follows : (next : ℕ) (left : ByteCount) → P n left (rest next left)) where
    onward_all : (last : Bool) (next : ℕ) (owed : ByteCount) → P n owed (onward rest last next owed)
    unfolding onward
    onward_all true next owed = stops n owed (finish_kind owed.0) next (finish_limit owed.0)
    onward_all false next owed = follows next owed

    along_all : (size : ℕ) (owed : ByteCount) (f : Fetched) → Good size owed f → P n owed (along rest owed f)
    unfolding along
    along_all size owed (Fault state next) g = stops n owed (Error state) next (fault_limit state)
    along_all size owed (Step next last int) g = with-ring n owed int (onward rest last next owed) (onward_all last next owed)
    along_all size owed (Data next d) g =
        let m = d.rest in
        let t = onward rest d.last next (less owed m) in
        with-area n owed m d.at (add_ring d.int t) g.1 (with-ring n (less owed m) d.int t (onward_all d.last next (less owed m)))

  -- the rule for every trace
  pub trace_all : (mem : List ℕ) (n at : ℕ) (owed : ByteCount) → P n owed (trace_of mem n at owed)
  unfolding trace_of
  trace_all mem zero at owed = none_left at owed
  trace_all mem (suc n) at owed =
      with-line n owed at (along (trace_of mem n) owed (fetch_of mem at owed))
      (along_all n (trace_of mem n) (trace_all mem n) (length mem) owed (fetch_of mem at owed) (fetch_good mem at owed))

-- no more lines are tried than the limit allows
pub lines_within : (mem : List ℕ) (n at : ℕ) (owed : ByteCount) → length (trace_of mem n at owed).lines ≤ n
lines_within mem n at owed =
    trace_all (λ n owed t. length t.lines ≤ n)
    (λ at owed. omega arith)
    (λ n owed k at h. omega arith)
    (λ n owed int t h. h)
    (λ n owed m at t w h. h)
    (λ n owed at t h. omega arith)
    mem n at owed

-- just as many lines are tried as the limit allows where the limit ends it
pub limit_lines : (mem : List ℕ) (n at : ℕ) (owed : ByteCount) → (trace_of mem n at owed).kind ≡ Limit → length (trace_of mem n at owed).lines ≡ n
limit_lines mem n at owed =
    trace_all (λ n owed t. t.kind ≡ Limit → length t.lines ≡ n)
    (λ at owed e. refl)
    (λ n owed k at h e. absurd (h e))
    (λ n owed int t h. h)
    (λ n owed m at t w h. h)
    (λ n owed at t h e. ap suc (h e))
    mem n at owed

-- the sound Tran lines name no more bytes than are owed
pub bytes_within : (mem : List ℕ) (n at : ℕ) (owed : ByteCount) → (total (trace_of mem n at owed).named).0 ≤ owed.0
unfolding total
bytes_within mem n at owed =
    trace_all (λ n owed t. (total t.named).0 ≤ owed.0)
    (λ at owed. omega arith)
    (λ n owed k at h. omega arith)
    (λ n owed int t h. h)
    (λ n owed m at t w h. omega arith)
    (λ n owed at t h. h)
    mem n at owed
