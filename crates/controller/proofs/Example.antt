-- The worked example of document 01 ("The run program"): the seventeen steps give the paper's answers, values and lines. Assumes nothing.
use Prim.Native.Nat.{ℕ}
use mathlib.Core.Path.{◌≡◌, refl}
use mathlib.Core.List.{List, [], ◌∷◌}
use lib.ListN.{replicate}
use Rattle.terms.specs.Answers.{number_of, value_of}
use Rattle.table.specs.Bench.{memory}
use Rattle.table.specs.Line.{byte_of, length_of, address_of, flags_of}
use Rattle.table.specs.Fetch.{fetch_of}
use Rattle.terms.specs.Flag.{unit_of}
use Rattle.registers.specs.Bits.{bit_of, without, put}
use Rattle.registers.specs.Place.{words, find, word_at, place_of, ones_of, cut_of, lanes_of, placed_of, target_of, guarded}
use Rattle.registers.specs.Interrupt.{shown_status, line_of}
use Rattle.registers.specs.Word.{stays}
use Rattle.registers.specs.Reset.{reset_with}
use Rattle.registers.specs.Access as access
use Rattle.engine.specs.Transfer.{ending, settled}
use Rattle.engine.specs.Turn.{seen, further, done_rest, moving_of, running_of, staged_of}
use Rattle.engine.specs.Block.{may_take, take_of}
use Rattle.controller.specs.Slot.{power_on, line_now}
use Rattle.controller.specs.Command.{request_of, command_step}
use Rattle.controller.specs.Card.{respond_of}
use Rattle.controller.specs.Steps.{Step, read, write, card_in, response, block_taken, turn, World, Result, step_of}

-- an output line: answer, value, interrupt line
abbrev pub Row : Type 0
Row = ℕ × ℕ × ℕ

-- "per step ... answer, value ..., line"
abbrev pub row_of : Result → Row
row_of r = (number_of r.answer, value_of r.answer, unit_of (line_now r.world.slot))

-- the lines of a run
unfoldable pub output : World → List Step → List Row
output w [] = []
output w (e ∷ rest) = row_of (step_of w e) ∷ output (step_of w e).world rest

-- "Memory (24)", with the slot at power-on and an empty buffer
unfoldable pub start : World
start = record { slot = power_on; buffer = replicate 512 0; memory = memory 0x23 0x10 }

-- "Steps: in; 02Ch/2=5; 029h/1=0Fh; ..."
unfoldable pub steps : List Step
steps =
    card_in
    ∷ write 0x02C 2 0x5
    ∷ write 0x029 1 0x0F
    ∷ write 0x028 1 0x10
    ∷ write 0x034 4 0x03FF01FF
    ∷ write 0x038 4 0x2
    ∷ write 0x004 4 0x8
    ∷ write 0x058 4 0x0
    ∷ write 0x00C 4 0x183A0001
    ∷ read 0x024 4
    ∷ response 0 (record { first = 0x900; second = 0; third = 0; fourth = 0 })
    ∷ turn
    ∷ turn
    ∷ block_taken (replicate 512 0)
    ∷ read 0x030 2
    ∷ write 0x030 2 0x1
    ∷ write 0x030 2 0x2
    ∷ []

-- "Output, whole"
unfoldable pub said : List Row
said =
    (0, 0x00000000, 0)
    ∷ (0, 0x00000000, 0)
    ∷ (0, 0x00000000, 0)
    ∷ (0, 0x00000000, 0)
    ∷ (0, 0x00000000, 0)
    ∷ (0, 0x00000000, 0)
    ∷ (0, 0x00000000, 0)
    ∷ (0, 0x00000000, 0)
    ∷ (0, 0x00000000, 0)
    ∷ (0, 0x01FF0107, 0)
    ∷ (0, 0x00000000, 0)
    ∷ (0, 0x00000000, 0)
    ∷ (0, 0x00000008, 0)
    ∷ (0, 0x00000008, 1)
    ∷ (0, 0x00000003, 1)
    ∷ (0, 0x00000000, 1)
    ∷ (0, 0x00000000, 0)
    ∷ []

-- the run of the paper prints the paper's output
pub example : output start steps ≡ said
unfolding output start steps said step_of byte_of length_of address_of flags_of fetch_of bit_of without put words find word_at place_of ones_of cut_of lanes_of placed_of target_of guarded shown_status line_of stays reset_with access.shown_of access.take_from access.take_of ending settled seen further done_rest moving_of running_of staged_of may_take take_of request_of command_step respond_of
example = refl
