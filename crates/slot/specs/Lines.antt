-- What needs no slot, spelled in numbers: surveys, the boot check, lines written and read. Assumes nothing: these are definitions.
use Rattle.std.specs.Prelude.{ℕ, List, Bool, ⊤, Result}
use Rattle.terms.specs.declared.Refusal.{Refusal}
use Rattle.slot.specs.Step.{answer_of}
use Rattle.terms.specs.Answers.{number_of}
use Rattle.terms.specs.Counts.{bytes}
use Rattle.table.specs.Line as line
use Rattle.table.specs.Written as written
use Rattle.table.specs.Survey as table
use Rattle.table.specs.declared.line.Line.{Line}
use Rattle.table.specs.declared.survey.Report.{Report}
use Rattle.terms.specs.Flag.{unit_of}
use Rattle.slot.specs.Record.{flag_at}
use Rattle.slot.specs.declared.step.Answer.{Answer}
use Rattle.slot.specs.declared.lines.Survey.{Survey}
use Rattle.slot.specs.declared.lines.Boot.{Boot}
use Rattle.slot.specs.declared.lines.LinePart.{LinePart}

-- "kind (0 well, 1 error, 2 limit), the 054h byte, lines tried, bytes named by sound Tran lines, and the address after"
abbrev pub survey_part : Result Report Refusal → Survey
survey_part s =
    let f = table.figures_of s in
    record { number = number_of s; kind = f.kind; state = f.state; lines = f.lines; bytes = f.bytes; after = f.after }

abbrev pub survey_of : List ℕ → ℕ → ℕ → ℕ → Survey
survey_of mem start owed limit = survey_part (table.survey_of mem start (bytes owed) limit)

-- "says yes exactly on kind 0"
abbrev pub boot_part : Result Bool Refusal → Boot
boot_part b = record { number = number_of b; yes = unit_of (table.yes_of b) }

abbrev pub boot_of : List ℕ → ℕ → ℕ → Boot
boot_of mem start owed = boot_part (table.boot_of mem start (bytes owed))

-- "its five flags, length and address"
abbrev pub line_at : LinePart → Line
line_at p =
    record {
      flags = record { valid = flag_at p.valid; end = flag_at p.end; int = flag_at p.int; act1 = flag_at p.act1; act2 = flag_at p.act2 };
      length = bytes p.length;
      address = p.address;
    }

abbrev pub line_part : Line → LinePart
line_part l =
    record {
      valid = unit_of l.flags.valid;
      end = unit_of l.flags.end;
      int = unit_of l.flags.int;
      act1 = unit_of l.flags.act1;
      act2 = unit_of l.flags.act2;
      length = l.length.0;
      address = l.address;
    }

-- "An answer is a number and a value."
abbrev pub written_part : Result ⊤ Refusal → Answer
written_part a = answer_of (written.line_answer a)

abbrev pub write_of : List ℕ → LinePart → Answer × List ℕ
write_of room p = let w = written.write_of room (line_at p) in (written_part w.0, w.1)

abbrev pub read_of : List ℕ → LinePart
read_of b = line_part (line.read_of b)
