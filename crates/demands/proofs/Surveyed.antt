-- "whose table reaches End or a fault within N lines", in the words of the survey: one of kind 0 or 1 with limit N says so. Assumes nothing.
use Prim.Native.Nat.{ℕ}
use native.Mathlib.Omega.{arith}
use mathlib.Core.Path.{◌≡◌, ◌∙◌, ap}
use mathlib.Core.Logic.{◌≢◌}
use Rattle.terms.specs.Answers.{number_of}
use Rattle.table.specs.Line.{aligned}
use Rattle.table.specs.Fetch.{byte_of}
use Rattle.table.specs.Trace.{trace_of}
use Rattle.table.specs.declared.fetch.Failure.{Failure}
use Rattle.table.specs.declared.survey.Kind.TheVariants.{Error, Limit}
use Rattle.table.specs.Survey.{kind_of, state_of, allowed_of, survey_trace, survey_of, Figures, figures_of}
use Rattle.table.proofs.Exactly.{survey_counts}
use Rattle.registers.proofs.Reserved.{Clean}
use Rattle.controller.specs.Steps.{World}
use Rattle.controller.proofs.Masks.{low_exactly}
use Rattle.demands.specs.Issued.{owed_of, table_of, trace_at}

-- 058h of a slot whose registers keep to their own bits: "058h bits 1-0 read as 0"
pub table_aligned : (w : World) → Clean w.slot.registers → aligned (table_of w) ≡ table_of w
table_aligned w c = let l = (low_exactly (table_of w)).0 c.low in omega arith

-- the kind of a table goes by where it is followed from
kind_at : (w : World) (n : ℕ) → aligned (table_of w) ≡ table_of w → (survey_trace w.memory (table_of w) (owed_of w) n).kind ≡ (trace_at w (allowed_of n)).kind
kind_at w n a = ap (λ (at : ℕ). (trace_of w.memory (allowed_of n) at (owed_of w)).kind) a

-- "kind (0 well, 1 error, 2 limit)": a survey not of kind 2 says that the table reaches End or a fault within the lines that it allows
pub surveyed : (w : World) (n : ℕ) → aligned (table_of w) ≡ table_of w → number_of (survey_of w.memory (table_of w) (owed_of w) n) ≡ 0
    → (figures_of (survey_of w.memory (table_of w) (owed_of w) n)).kind ≢ 2 → (trace_at w (allowed_of n)).kind ≢ Limit
surveyed w n a z k l =
    k (ap (λ (f : Figures). f.kind) (survey_counts w.memory (table_of w) (owed_of w) n z) ∙ ap kind_of (kind_at w n a ∙ l))

-- "the 054h byte": what a survey gives is the state of the table's fault
pub survey_state : (w : World) (n : ℕ) (f : Failure) → aligned (table_of w) ≡ table_of w → number_of (survey_of w.memory (table_of w) (owed_of w) n) ≡ 0
    → (trace_at w (allowed_of n)).kind ≡ Error f → (figures_of (survey_of w.memory (table_of w) (owed_of w) n)).state ≡ byte_of f
survey_state w n f a z e =
    ap (λ (f : Figures). f.state) (survey_counts w.memory (table_of w) (owed_of w) n z) ∙ ap state_of (kind_at w n a ∙ e)
