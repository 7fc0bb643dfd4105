-- What demand 3 is granted: of the command and its table, and of every step of the run. Assumes nothing: these are definitions.
use Rattle.std.specs.Prelude.{ℕ, ◌+◌, ◌≤◌, ◌≡◌, ◌⊎◌, ◌≢◌, List, [], ◌∷◌, length}
use Rattle.terms.specs.Answers.{number_of}
use Rattle.table.specs.Memory.{memory_limit}
use Rattle.table.specs.declared.survey.Kind.TheVariants.{Limit}
use Rattle.engine.specs.Demand.{Uncovered}
use Rattle.controller.specs.Command.{largest_block}
use Rattle.controller.specs.Steps.{Step, read, write, card_in, card_out, response, block_given, block_taken, busy_over_step, data_error_step, level, turn, World}
use Rattle.demands.specs.Run.{Deed}
use Rattle.demands.specs.Issued.{Issued, way_of, trace_at}

-- ---- of the command, its table and the lent memory

pub record Granted (w : World) (lines : ℕ) : Type 0 where
  -- "A data command that has just issued"
  pub issued : Issued w
  -- "The buffer is one block": the slot's own buffer has room for the largest
  pub buffer : largest_block ≤ length w.buffer
  -- "the same permitted memory is lent": at most 16,777,216 bytes
  pub permitted : length w.memory ≤ memory_limit
  -- "whose table reaches End or a fault within N lines"
  pub reaches : (trace_at w lines).kind ≢ Limit
  -- "on a read no named data covers a followed line": a failing line is followed too, and counts with all its eight bytes
  pub clear : Uncovered (way_of w) (trace_at w lines)

-- ---- of every step

abbrev pub Permitted : Step → Type 0
Permitted (read offset width) = Unit
-- "the driver writes only the interrupt status registers": 030h to 033h
Permitted (write offset width value) = (0x030 ≤ offset) × (offset + width ≤ 0x034)
-- "the card stays in"
Permitted card_in = Unit
Permitted card_out = ⊥
-- "answers without error"
Permitted (response result words) = result ≡ 0
-- "gives and takes whole blocks": a part of a block, or room for less, is refused
Permitted (block_given block) = Unit
Permitted (block_taken room) = Unit
Permitted busy_over_step = Unit
-- "raises no data error"
Permitted (data_error_step number) = ⊥
Permitted (level up) = Unit
Permitted turn = Unit

-- a step that is refused may stand anywhere
abbrev pub Fair : Deed → Type 0
Fair d = (number_of d.result.answer ≢ 0) ⊎ Permitted d.step

abbrev pub AllFair : List Deed → Type 0
AllFair [] = Unit
AllFair (d ∷ ds) = Fair d × AllFair ds
