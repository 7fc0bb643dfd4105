-- "A data command that has just issued, for B blocks": the world right after an accepted command write, and what that command asked for.
-- Assumes nothing: these are definitions.
use Rattle.std.specs.Prelude.{ℕ, ◌≡◌, true}
use Rattle.terms.specs.Answers.{number_of}
use Rattle.terms.specs.Counts.{times}
use Rattle.terms.specs.declared.BlockCount.{BlockCount}
use Rattle.terms.specs.declared.ByteCount.{ByteCount}
use Rattle.table.specs.Trace.{Trace, trace_of}
use Rattle.registers.specs.Place.{issues}
use Rattle.engine.specs.declared.transfer.Way.{Way}
use Rattle.controller.specs.Command.{request_of, blocks_asked, way_asked}
use Rattle.controller.specs.Steps.{write, World, step_of}
use Rattle.controller.specs.declared.command.Request.{Request}

-- what the registers ask for: those of an accepted command write stand as it was judged by
abbrev pub asked : World → Request
asked w = request_of w.slot.registers

-- some world, and a write to it that reaches byte 00Fh, is answered 0, leads here and asks for data
pub record Issued (w : World) : Type 0 where
  pub before : World
  pub offset : ℕ
  pub width : ℕ
  pub value : ℕ
  pub issuing : issues offset width ≡ true
  pub accepted : number_of (step_of before (write offset width value)).answer ≡ 0
  pub leads : (step_of before (write offset width value)).world ≡ w
  pub with_data : (asked w).«data» ≡ true

-- ---- what the command goes by

-- "B is 1 without Multi ...; with Multi B is Block Count"
abbrev pub blocks_of : World → BlockCount
blocks_of w = blocks_asked (asked w)

abbrev pub size_of : World → ℕ
size_of w = (asked w).size

abbrev pub way_of : World → Way
way_of w = way_asked (asked w)

-- "block size times B": a product by the block size is the only crossing
abbrev pub owed_of : World → ByteCount
owed_of w = times (blocks_of w) (size_of w)

-- "lines use 058h-05Bh"
abbrev pub table_of : World → ℕ
table_of w = w.slot.registers.adma.low

-- the table over the memory lent, followed for so many lines
abbrev pub trace_at : World → ℕ → Trace
trace_at w lines = trace_of w.memory lines (table_of w) (owed_of w)
