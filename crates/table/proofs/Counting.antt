-- A report that counts on from what was met before: how it grows with each line of a trace. Assumes nothing.
use Prim.Native.Nat.{ℕ, zero, suc, ◌+◌, ◌-◌}
use native.Mathlib.Numerals.{sub-one}
use native.Mathlib.Omega.{arith}
use mathlib.Core.Path.{◌≡◌, refl, ap, ◌∙◌}
use mathlib.Core.List.{List}
use mathlib.Core.Bool.{Bool, true, false, cond}
use lib.ListN.{length}
use Rattle.terms.specs.Counts.{bytes, more, less}
use Rattle.terms.specs.declared.ByteCount.{ByteCount}
use Rattle.table.specs.Fetch.{fetch_of}
use Rattle.table.specs.declared.fetch.Failure.TheVariants as failure
use Rattle.table.specs.Trace.{Trace, ends, add_line, add_area, add_ring, finish_kind, onward, along, trace_of, total}
use Rattle.table.specs.declared.survey.Kind.{Kind}
use Rattle.table.specs.declared.survey.Kind.TheVariants.{Error}
use Rattle.table.specs.Survey.{report_as, report_from, report_of, behind_of}
use Rattle.table.specs.declared.fetch.Fetched.{Fetched}
use Rattle.table.specs.declared.fetch.Fetched.TheVariants.{Fault, Step, Data}
use Rattle.table.specs.declared.survey.Report.{Report}

-- bytes still owed at the End line are the error of state 00 with Mismatch
pub finish_owing : (n : ℕ) → (n ≡ 0 → ⊥) → finish_kind n ≡ Error failure.Owing
finish_owing zero h = absurd (h refl)
finish_owing (suc n) h = refl

pub count_end : (lines : ℕ) (named : ByteCount) (k : Kind) (at : ℕ) → report_from lines named (ends k at) ≡ report_as k lines named at
unfolding total
count_end lines named k at =
    let l : lines + 0 ≡ lines = omega arith in
    let b : named.0 + 0 ≡ named.0 = omega arith in
    λ i. report_as k (l i) (bytes (b i)) at

count_line : (lines : ℕ) (named : ByteCount) (at : ℕ) (t : Trace) → report_from lines named (add_line at t) ≡ report_from (lines + 1) named t
count_line lines named at t = ap (λ (n : ℕ). report_as t.kind n (more named (total t.named)) t.after) (omega arith)

count_area : (lines : ℕ) (named n : ByteCount) (at : ℕ) (t : Trace) → report_from lines named (add_area at n.0 t) ≡ report_from lines (more named n) t
unfolding total
count_area lines named n at t = ap (λ (m : ℕ). report_as t.kind (lines + length t.lines) (bytes m) t.after) (omega arith)

-- what a fetch adds to a report: the error, the end of the table, or the rest of it
abbrev pub told : ℕ → ByteCount → ByteCount → (ℕ → ByteCount → ByteCount → Report) → Fetched → Report
told lines named owed rest (Fault state next) = report_as (Error state) lines named next
told lines named owed rest (Step next last int) = cond last (report_as (finish_kind owed.0) lines named next) (rest next owed named)
told lines named owed rest (Data next h) =
    cond h.last (report_as (finish_kind (less owed h.rest).0) lines (more named h.rest) next) (rest next (less owed h.rest) (more named h.rest))

module _ (rest : ℕ → ByteCount → Trace) (lines : ℕ) where
  onward_told : (last : Bool) (next : ℕ) (owed named : ByteCount)
      → report_from lines named (onward rest last next owed)
      ≡ cond last (report_as (finish_kind owed.0) lines named next) (report_from lines named (rest next owed))
  unfolding onward
  onward_told true next owed named = count_end lines named (finish_kind owed.0) next
  onward_told false next owed named = refl

  along_told : (owed named : ByteCount) (f : Fetched)
      → report_from lines named (along rest owed f) ≡ told lines named owed (λ next left met. report_from lines met (rest next left)) f
  unfolding along
  along_told owed named (Fault state next) = count_end lines named (Error state) next
  along_told owed named (Step next last int) = onward_told last next owed named
  along_told owed named (Data next h) =
      count_area lines named h.rest h.at (add_ring h.int (onward rest h.last next (less owed h.rest)))
      ∙ onward_told h.last next (less owed h.rest) (more named h.rest)

-- the clause of `trace_of` for a line that is allowed, in the code's terms
pub follow_told : (mem : List ℕ) (n at : ℕ) (owed named : ByteCount) (lines : ℕ) → (n ≡ 0 → ⊥)
    → report_from lines named (trace_of mem n at owed)
    ≡ told (lines + 1) named owed (λ next left met. report_from (lines + 1) met (trace_of mem (n - 1) next left)) (fetch_of mem at owed)
unfolding trace_of
follow_told mem zero at owed named lines h = absurd (h refl)
follow_told mem (suc n) at owed named lines h =
    rw (sub-one (suc n))
    (count_line lines named at (along (trace_of mem n) owed (fetch_of mem at owed))
    ∙ along_told (trace_of mem n) (lines + 1) owed named (fetch_of mem at owed))

-- the report of what follows a line, behind that line
pub behind_told : (named : ByteCount) (t : Trace) → behind_of named (report_of t) ≡ report_from 1 named t
behind_told named t =
    let lines : 0 + length t.lines + 1 ≡ 1 + length t.lines = omega arith in
    let all : named.0 + (0 + (total t.named).0) ≡ named.0 + (total t.named).0 = omega arith in
    λ i. report_as t.kind (lines i) (bytes (all i)) t.after
