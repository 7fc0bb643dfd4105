-- The survey and the boot check: what they report of a table's trace, and what they refuse. Assumes nothing: these are definitions.
use Rattle.std.specs.Prelude.{ℕ, ◌+◌, List, Bool, false, cond, length, ltb, eqb, Result, Ok, Err}
use Rattle.terms.specs.Counts.{bytes, more}
use Rattle.terms.specs.declared.Refusal.{Refusal}
use Rattle.terms.specs.declared.Refusal.TheVariants.{MemoryTooLarge, LimitTooHigh}
use Rattle.terms.specs.declared.ByteCount.{ByteCount}
use Rattle.table.specs.Memory.{too_large}
use Rattle.table.specs.Line.{aligned}
use Rattle.table.specs.Fetch.{byte_of}
use Rattle.table.specs.Trace.{Trace, trace_of, total}
use Rattle.table.specs.declared.survey.Kind.{Kind}
use Rattle.table.specs.declared.survey.Kind.TheVariants.{Well, Error, Limit}
use Rattle.table.specs.declared.survey.Report.{Report}

-- "kind (0 well, 1 error, 2 limit), the 054h byte"
abbrev pub kind_of : Kind → ℕ
kind_of Well = 0
kind_of (Error f) = 1
kind_of Limit = 2

-- "the 054h byte"
abbrev pub state_of : Kind → ℕ
state_of Well = 0
state_of (Error f) = byte_of f
state_of Limit = 0

abbrev pub report_as : Kind → ℕ → ByteCount → ℕ → Report
report_as k lines named after = record { kind = k; lines = lines; bytes = named; after = after }

-- "lines tried, bytes named by sound Tran lines, and the address after": those of a trace, and so many met before it
abbrev pub report_from : ℕ → ByteCount → Trace → Report
report_from lines named t = report_as t.kind (lines + length t.lines) (more named (total t.named)) t.after

abbrev pub report_of : Trace → Report
report_of t = report_from 0 (bytes 0) t

-- what a report says, behind one more line that names so many bytes
abbrev pub behind_of : ByteCount → Report → Report
behind_of named r = record { kind = r.kind; lines = r.lines + 1; bytes = more named r.bytes; after = r.after }

-- "a line limit (0 means 64)"
abbrev pub default_limit : ℕ
default_limit = 64

abbrev pub allowed_of : ℕ → ℕ
allowed_of n = cond (eqb n 0) default_limit n

-- "survey limit over 4,096"
abbrev pub lines_most : ℕ
lines_most = 4096

abbrev pub limit_over : ℕ → Bool
limit_over n = ltb lines_most n

-- the trace that a survey reports: "a start (low two bits as 0)"
abbrev pub survey_trace : List ℕ → ℕ → ByteCount → ℕ → Trace
survey_trace mem start owed n = trace_of mem (allowed_of n) (aligned start) owed

-- "11 before 12"
abbrev pub survey_of : List ℕ → ℕ → ByteCount → ℕ → Result Report Refusal
survey_of mem start owed n =
    cond (too_large mem) (Err MemoryTooLarge) (cond (limit_over n) (Err LimitTooHigh) (Ok (report_of (survey_trace mem start owed n))))

-- what a survey tells in numbers
pub record Figures : Type 0 where
  pub kind : ℕ
  pub state : ℕ
  pub lines : ℕ
  pub bytes : ℕ
  pub after : ℕ

-- "All but 0 have value 0 (each field of a survey too)"
abbrev pub figures_of : Result Report Refusal → Figures
figures_of (Ok r) = record { kind = kind_of r.kind; state = state_of r.kind; lines = r.lines; bytes = r.bytes.0; after = r.after }
figures_of (Err refusal) = record { kind = 0; state = 0; lines = 0; bytes = 0; after = 0 }

-- does a survey say that the table goes well? Its refusal is passed on
abbrev pub says_yes : Result Report Refusal → Result Bool Refusal
says_yes (Ok r) = Ok (eqb (kind_of r.kind) 0)
says_yes (Err refusal) = Err refusal

-- "The boot check ... surveys with limit 0 and says yes exactly on kind 0; 11 is passed on with no."
abbrev pub boot_of : List ℕ → ℕ → ByteCount → Result Bool Refusal
boot_of mem start owed = says_yes (survey_of mem start owed 0)

-- a boot check that is refused says no
abbrev pub yes_of : Result Bool Refusal → Bool
yes_of (Ok says) = says
yes_of (Err refusal) = false
