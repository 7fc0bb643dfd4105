-- The answers of a line written, a survey and a boot check: which number, exactly when, and what comes with it. Assumes nothing.
use Prim.Native.Nat.{ℕ, ◌%◌, ◌≤◌, ◌<◌}
use native.Mathlib.Nat.{zero-add}
use native.Mathlib.Omega.{arith}
use mathlib.Core.Logic.{◌↔◌, ◌⊎◌, inl, inr, ◌≢◌, ⊎_elim}
use mathlib.Core.Path.{◌≡◌, refl}
use mathlib.Core.List.{List}
use mathlib.Core.Bool.{Bool, true, false}
use lib.ListN.{length}
use lib.Dec.{eqb}
use borrow.Author.Tests.{ltb-true, ltb-false}
use Rattle.terms.specs.Answers.{number_of}
use Rattle.std.specs.Prelude.{⊤, Result, Ok, Err}
use Rattle.terms.specs.declared.Refusal.{Refusal}
use Rattle.terms.specs.declared.Refusal.TheVariants.{MemoryTooLarge, LimitTooHigh}
use Rattle.terms.specs.declared.ByteCount.{ByteCount}
use Rattle.table.specs.Memory.{memory_limit, too_large}
use Rattle.table.specs.Line.{line_size}
use Rattle.table.specs.Written.{write_of}
use Rattle.table.specs.Trace.{total}
use Rattle.table.specs.declared.survey.Kind.{Kind}
use Rattle.table.specs.declared.survey.Kind.TheVariants.{Well, Error, Limit}
use Rattle.table.specs.Survey.{kind_of, state_of, report_of, limit_over, survey_trace, Figures, figures_of, survey_of, says_yes, boot_of, yes_of}
use Rattle.table.specs.declared.line.Line.{Line}
use Rattle.table.specs.declared.survey.Report.{Report}
use Rattle.table.proofs.Readback.{Unfit, fit, Written, taken, kept, written}

module _ (room : List ℕ) (l : Line) where
  -- the numbers of a line written, each exactly when, and the room after it
  room_rows : {r : Result ⊤ Refusal × List ℕ} → Written room l r
      → ((number_of r.0 ≡ 17) ↔ ((length room ≢ line_size) ⊎ Unfit l))
      × ((number_of r.0 ≡ 0) ⊎ (number_of r.0 ≡ 17))
      × (number_of r.0 ≢ 0 → r.1 ≡ room)
  room_rows (taken e (fit low high even)) =
      ((λ h. absurd (omega arith), ⊎_elim (omega arith) (⊎_elim (omega arith) (⊎_elim (omega arith) (omega arith)))), inl refl, λ h. absurd (h refl))
  room_rows (kept w) = ((λ h. w, λ v. refl), inr refl, λ h. refl)

  -- row 17
  pub refused_17 : (number_of (write_of room l).0 ≡ 17) ↔ ((length room ≢ line_size) ⊎ (l.length.0 ≡ 0) ⊎ (65536 < l.length.0) ⊎ (l.address % 4 ≢ 0))
  refused_17 = (room_rows (written room l)).0

  -- a line is written or refused with 17: no other number
  pub written_or_17 : (number_of (write_of room l).0 ≡ 0) ⊎ (number_of (write_of room l).0 ≡ 17)
  written_or_17 = (room_rows (written room l)).1

  -- "All but 0 ... change nothing"
  pub refused_keeps : number_of (write_of room l).0 ≢ 0 → (write_of room l).1 ≡ room
  refused_keeps = (room_rows (written room l)).2

module _ (mem : List ℕ) (start : ℕ) (owed : ByteCount) (n : ℕ) where
  -- what becomes of a survey: "11 before 12"
  data Outcome : Result Report Refusal → Type 0 where
    large : memory_limit < length mem → Outcome (Err MemoryTooLarge)
    high : length mem ≤ memory_limit → 4096 < n → Outcome (Err LimitTooHigh)
    done : length mem ≤ memory_limit → n ≤ 4096 → Outcome (Ok (report_of (survey_trace mem start owed n)))

  outcome : Outcome (survey_of mem start owed n)
  outcome = go (too_large mem) (limit_over n) refl refl
    where
      go : (t u : Bool) → too_large mem ≡ t → limit_over n ≡ u → Outcome (survey_of mem start owed n)
      go true u e f = rw e (large (ltb-true _ _ e))
      go false true e f = rw (e, f) (high (ltb-false _ _ e) (ltb-true _ _ f))
      go false false e f = rw (e, f) (done (ltb-false _ _ e) (ltb-false _ _ f))

  -- what a trace tells in numbers, and what a refusal does
  abbrev told : Figures
  told =
      let t = survey_trace mem start owed n in
      record { kind = kind_of t.kind; state = state_of t.kind; lines = length t.lines; bytes = (total t.named).0; after = t.after }

  abbrev zeros : Figures
  zeros = record { kind = 0; state = 0; lines = 0; bytes = 0; after = 0 }

  -- the numbers of a survey, each exactly when, and its figures
  rows : {s : Result Report Refusal} → Outcome s
      → ((number_of s ≡ 11) ↔ (memory_limit < length mem))
      × ((number_of s ≡ 12) ↔ ((length mem ≤ memory_limit) × (4096 < n)))
      × ((number_of s ≡ 0) ↔ ((length mem ≤ memory_limit) × (n ≤ 4096)))
      × (number_of s ≢ 0 → figures_of s ≡ zeros)
      × (number_of s ≡ 0 → figures_of s ≡ told)
  rows (large m) = (omega arith, omega arith, omega arith, λ h. refl, λ h. absurd (omega arith))
  rows (high m k) = (omega arith, omega arith, omega arith, λ h. refl, λ h. absurd (omega arith))
  rows (done m k) = (omega arith, omega arith, omega arith, λ h. absurd (h refl), λ h. simp zero-add)

  -- row 11 for a survey: "11 before 12"
  pub survey_11 : (number_of (survey_of mem start owed n) ≡ 11) ↔ (memory_limit < length mem)
  survey_11 = (rows outcome).0

  -- row 12 for a survey: "11 before 12"
  pub survey_12 : (number_of (survey_of mem start owed n) ≡ 12) ↔ ((length mem ≤ memory_limit) × (4096 < n))
  survey_12 = (rows outcome).1

  -- row 0 for a survey
  pub survey_0 : (number_of (survey_of mem start owed n) ≡ 0) ↔ ((length mem ≤ memory_limit) × (n ≤ 4096))
  survey_0 = (rows outcome).2

  -- "(each field of a survey too)": a refused survey reports zeros
  pub survey_zeros : number_of (survey_of mem start owed n) ≢ 0 → figures_of (survey_of mem start owed n) ≡ record { kind = 0; state = 0; lines = 0; bytes = 0; after = 0 }
  survey_zeros = (rows outcome).3

  -- the public counts are what the trace lists
  pub survey_counts : number_of (survey_of mem start owed n) ≡ 0
      → figures_of (survey_of mem start owed n)
      ≡ (let t = survey_trace mem start owed n in
      record { kind = kind_of t.kind; state = state_of t.kind; lines = length t.lines; bytes = (total t.named).0; after = t.after })
  survey_counts = (rows outcome).4

-- does the kind say yes?
kind_yes : (k : Kind) → (eqb (kind_of k) 0 ≡ true) ↔ (k ≡ Well)
kind_yes Well = (λ e. refl, λ e. refl)
kind_yes (Error state) = (λ e. cc, λ e. cc)
kind_yes Limit = (λ e. cc, λ e. cc)

module _ (mem : List ℕ) (start : ℕ) (owed : ByteCount) where
  -- row 11 for the boot check
  pub boot_11 : (number_of (boot_of mem start owed) ≡ 11) ↔ (memory_limit < length mem)
  boot_11 = passed (survey_of mem start owed 0) (survey_11 mem start owed 0)
    where
      passed : (s : Result Report Refusal) → ((number_of s ≡ 11) ↔ (memory_limit < length mem)) → (number_of (says_yes s) ≡ 11) ↔ (memory_limit < length mem)
      passed (Ok r) h = h
      passed (Err refusal) h = h

  -- "yes exactly on kind 0; 11 is passed on with no"
  pub boot_yes : (yes_of (boot_of mem start owed) ≡ true) ↔ ((length mem ≤ memory_limit) × ((survey_trace mem start owed 0).kind ≡ Well))
  boot_yes = go (outcome mem start owed 0)
    where
      go : {s : Result Report Refusal} → Outcome mem start owed 0 s → (yes_of (says_yes s) ≡ true) ↔ ((length mem ≤ memory_limit) × ((survey_trace mem start owed 0).kind ≡ Well))
      go (large m) = (λ e. let z : ◌≡◌ {A = ℕ} 0 1 = cc in absurd (omega arith), λ h. absurd (omega arith))
      go (high m k) = absurd (omega arith)
      go (done m k) = let y = kind_yes (survey_trace mem start owed 0).kind in (λ e. (m, y.0 e), λ h. y.1 h.1)
