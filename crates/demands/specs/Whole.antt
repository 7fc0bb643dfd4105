-- "Whole transfers": what demand 3 promises of a world that a run has reached. Assumes nothing: these are definitions.
use Rattle.std.specs.Prelude.{ℕ, ◌+◌, ◌*◌, ◌≤◌, ◌≡◌, ◌↔◌, List, true, false, length}
use Rattle.terms.specs.Answers.{number_of}
use Rattle.table.specs.Fetch.{byte_of}
use Rattle.table.specs.Trace.{Area}
use Rattle.table.specs.Sound.{Sound}
use Rattle.table.specs.declared.fetch.Failure.{Failure}
use Rattle.table.specs.declared.survey.Kind.TheVariants.{Error}
use Rattle.registers.specs.declared.block.Reply.{Reply}
use Rattle.engine.specs.Demand.{Carried, Kept, Delivered}
use Rattle.engine.specs.declared.transfer.Dat.TheVariants.{Free, Halted}
use Rattle.controller.specs.Steps.{Step, response, block_given, block_taken, turn, World, step_of}
use Rattle.demands.specs.Run.{deeds, reached, turns_done, passed, running}
use Rattle.demands.specs.Issued.{blocks_of, size_of, way_of, owed_of, table_of, trace_at}
use Rattle.demands.specs.Granted.{AllFair}

-- "a turn, the response or a block is always accepted"
pub data Open (size : ℕ) (w : World) : Type 0 where
  by_turn : number_of (step_of w turn).answer ≡ 0 → Open size w
  by_response : ((words : Reply) → number_of (step_of w (response 0 words)).answer ≡ 0) → Open size w
  by_given : ((block : List ℕ) → length block ≡ size → number_of (step_of w (block_given block)).answer ≡ 0) → Open size w
  by_taken : ((room : List ℕ) → size ≤ length room → number_of (step_of w (block_taken room)).answer ≡ 0) → Open size w

-- "completes": DAT is free again, and nothing but the end of this transfer can have freed it
abbrev pub Completed : World → Type 0
Completed w = w.slot.dat ≡ Free

-- some further steps, all of them fair, after which no transfer runs
abbrev pub Driven : World → Type 0
Driven w = (es : List Step) × AllFair (deeds w es) × (running (reached w es) ≡ false)

-- from the world right after the command, for a table followed for so many lines, after these steps
pub record Whole (w : World) (lines : ℕ) (es : List Step) : Type 0 where
  -- "in every order of steps at most 2N + B turns do something"
  pub bound : turns_done (deeds w es) ≤ 2 * lines + (blocks_of w).0
  -- "until the transfer ends a turn, the response or a block is always accepted"
  pub progress : running (reached w es) ≡ true → Open (size_of w) (reached w es)
  -- "Driven to its end": it can be, from wherever the run has come
  pub driven : Driven (reached w es)
  -- "it completes exactly when each followed line is sound and the named bytes lie in memory and equal block size times B"
  pub completes : running (reached w es) ≡ false
      → Completed (reached w es) ↔ ((named : List Area) × Sound w.memory lines (table_of w) (owed_of w) named)
  -- "otherwise it ends in the ADMA error that the table gives": halted, with 054h the byte of that error
  pub fails : running (reached w es) ≡ false → (Completed (reached w es) → ⊥)
      → (f : Failure) × ((trace_at w lines).kind ≡ Error f) × ((reached w es).slot.dat ≡ Halted (way_of w))
      × ((reached w es).slot.registers.adma.fault ≡ byte_of f)
  -- "with those bytes carried in order": B whole blocks, joined, are the bytes that the table itself names
  pub blocks : Completed (reached w es) → length (passed (deeds w es)) ≡ (owed_of w).0
  pub bytes : Completed (reached w es) → (named : List Area) → Sound w.memory lines (table_of w) (owed_of w) named
      → Delivered (way_of w) w.memory named (reached w es).memory (passed (deeds w es))
  -- what was carried until it ended, completed or not, in order
  pub carried : running (reached w es) ≡ false
      → Carried (way_of w) (size_of w) w.memory (trace_at w lines).named (reached w es).memory (passed (deeds w es))
  -- "and nothing else touched", at any time
  pub kept : Kept (way_of w) w.memory (trace_at w lines).named (reached w es).memory
