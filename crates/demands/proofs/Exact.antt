-- Demands 1 and 2: each clause is a theorem of the crate that it speaks of. Assumes nothing.
use Prim.Native.Nat.{ℕ}
use native.Mathlib.Omega.{arith}
use mathlib.Core.Path.{◌≡◌, refl}
use mathlib.Core.List.{List}
use Rattle.std.specs.Prelude.{Result, Ok, Err}
use Rattle.terms.specs.declared.ByteCount.{ByteCount}
use Rattle.terms.specs.Answers.{number_of}
use Rattle.terms.specs.declared.Refusal.{Refusal}
use Rattle.table.specs.Survey.{survey_of, says_yes}
use Rattle.table.specs.Written.{write_of}
use Rattle.table.specs.declared.line.Line.{Line}
use Rattle.table.specs.declared.survey.Report.{Report}
use Rattle.table.proofs.Exactly.{refused_17, written_or_17, refused_keeps, survey_11, survey_12, survey_0, survey_zeros, boot_11, boot_yes}
use Rattle.table.proofs.Readback.{line_value, write_read}
use Rattle.controller.specs.Steps.{Step, World}
use Rattle.controller.proofs.Refused.{refused, one_outcome}
use Rattle.controller.proofs.Exactly.{row_1, row_2, row_3, row_4, row_5, row_6, row_7, row_8, row_9, row_10, row_11, below_12}
use Rattle.controller.proofs.Bench.{paper_holds}
use Rattle.demands.specs.Exact.{Refusing, Surveying, Writing, Exact}

-- "Each entry ... refuses exactly what document 01 refuses."
pub demand_1 : (w : World) (e : Step) → Refusing w e
demand_1 w e =
    record {
      row_1 = row_1 w e;
      row_2 = row_2 w e;
      row_3 = row_3 w e;
      row_4 = row_4 w e;
      row_5 = row_5 w e;
      row_6 = row_6 w e;
      row_7 = row_7 w e;
      row_8 = row_8 w e;
      row_9 = row_9 w e;
      row_10 = row_10 w e;
      row_11 = row_11 w e;
      no_other = below_12 w e;
      nothing = refused w e;
    }

-- a boot check passes on the number of its survey
boot_number : (s : Result Report Refusal) → number_of (says_yes s) ≡ number_of s
boot_number (Ok report) = refl
boot_number (Err refusal) = refl

-- the same of a survey and a boot check
pub demand_1_survey : (mem : List ℕ) (start : ℕ) (owed : ByteCount) (n : ℕ) → Surveying mem start owed n
demand_1_survey mem start owed n =
    record {
      row_11 = survey_11 mem start owed n;
      row_12 = survey_12 mem start owed n;
      row_0 = survey_0 mem start owed n;
      zeros = survey_zeros mem start owed n;
      boot_11 = boot_11 mem start owed;
      boot_0 = rw (boot_number (survey_of mem start owed 0)) (λ e. ((survey_0 mem start owed 0).0 e).0, λ m. (survey_0 mem start owed 0).1 (m, omega arith));
      boot_yes = boot_yes mem start owed;
    }

-- and of a line to be written
pub demand_1_line : (room : List ℕ) (l : Line) → Writing room l
demand_1_line room l =
    record {
      row_17 = refused_17 room l;
      no_other = written_or_17 room l;
      nothing = λ h. (line_value (write_of room l).0, refused_keeps room l h);
    }

-- "Every answer, register and byte after a step is what document 01 says. Descriptor lines read back as they were written."
pub demand_2 : Exact
demand_2 = record { one_outcome = one_outcome; read_back = write_read; paper = paper_holds }
