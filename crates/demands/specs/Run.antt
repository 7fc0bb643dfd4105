-- A run of the whole controller: any list of steps, from any slot, buffer and memory; what each step gave is part of it. Each step finds the
-- slot, the buffer and the memory that the step before it left: "the same permitted memory is lent and nobody else writes it". Assumes nothing:
-- these are definitions.
use Rattle.std.specs.Prelude.{ℕ, List, [], ◌∷◌, ◌++◌, Bool, cond, take}
use Rattle.terms.specs.Answers.{Answer, value_of, is_done}
use Rattle.engine.specs.Transfer.{runs_of}
use Rattle.engine.specs.Run.{tally}
use Rattle.controller.specs.Steps.{Step, read, write, card_in, card_out, response, block_given, block_taken, busy_over_step, data_error_step, level, turn, World, Result, step_of}

-- a step that was made, and what it gave
pub record Deed : Type 0 where
  pub step : Step
  pub result : Result

unfoldable pub deeds : World → List Step → List Deed
deeds w [] = []
deeds w (e ∷ es) = record { step = e; result = step_of w e } ∷ deeds (step_of w e).world es

-- where the steps lead
unfoldable pub reached : World → List Step → World
reached w [] = w
reached w (e ∷ es) = reached (step_of w e).world es

-- ---- what is counted and carried

-- one turn more if the step is a turn and was answered 0
abbrev pub count_turn : Step → Answer → ℕ → ℕ
count_turn (read offset width) a n = n
count_turn (write offset width value) a n = n
count_turn card_in a n = n
count_turn card_out a n = n
count_turn (response result words) a n = n
count_turn (block_given block) a n = n
count_turn (block_taken room) a n = n
count_turn busy_over_step a n = n
count_turn (data_error_step number) a n = n
count_turn (level up) a n = n
count_turn turn a n = tally a n

-- the turns that did something
unfoldable pub turns_done : List Deed → ℕ
turns_done [] = 0
turns_done (d ∷ ds) = count_turn d.step d.result.answer (turns_done ds)

-- the bytes that pass between controller and card in a step answered 0: the block given, or as many of the room's first bytes as the value says
abbrev pub passing : Step → Result → List ℕ
passing (read offset width) r = []
passing (write offset width value) r = []
passing card_in r = []
passing card_out r = []
passing (response result words) r = []
passing (block_given block) r = cond (is_done r.answer) block []
passing (block_taken room) r = cond (is_done r.answer) (take (value_of r.answer) r.room) []
passing busy_over_step r = []
passing (data_error_step number) r = []
passing (level up) r = []
passing turn r = []

-- the blocks given or taken, joined
unfoldable pub passed : List Deed → List ℕ
passed [] = []
passed (d ∷ ds) = passing d.step d.result ++ passed ds

-- ---- has the transfer ended?

-- a transfer runs
abbrev pub running : World → Bool
running w = runs_of w.slot.dat
