-- Demand 3 on the engine's own steps: its premises and its promises. Assumes nothing: these are definitions.
use Rattle.std.specs.Prelude.{ℕ, ◌+◌, ◌*◌, ◌≤◌, ◌<◌, ◌≡◌, ◌⊎◌, ◌≢◌, List, [], ◌∷◌, ◌++◌, true, false, length, get_or}
use Rattle.terms.specs.Answers.{number_of}
use Rattle.terms.specs.Counts.{times}
use Rattle.terms.specs.declared.BlockCount.{BlockCount}
use Rattle.table.specs.Memory.{memory_limit}
use Rattle.table.specs.Line.{line_size}
use Rattle.table.specs.Trace.{Area, Trace, trace_of, named_bytes, fill}
use Rattle.table.specs.declared.survey.Kind.{Kind}
use Rattle.table.specs.declared.survey.Kind.TheVariants.{Well, Error, Limit}
use Rattle.engine.specs.Transfer.{runs_of}
use Rattle.engine.specs.Turn.{turn_of}
use Rattle.engine.specs.Block.{given_of, taken_of}
use Rattle.engine.specs.Run.{World, awaits_of}
use Rattle.engine.specs.declared.transfer.Way.{Way}
use Rattle.engine.specs.declared.transfer.Way.TheVariants.{Read, Write}
use Rattle.engine.specs.declared.transfer.Dat.{Dat}
use Rattle.engine.specs.declared.transfer.Dat.TheVariants.{Free, Halted}
use Rattle.engine.specs.declared.transfer.Outcome.{Outcome}
use Rattle.engine.specs.declared.transfer.Outcome.TheVariants.{Goes, Completes, Fails}

-- ---- where data and lines lie

-- n bytes from an address on lie apart from an area
abbrev pub Off : ℕ → ℕ → Area → Type 0
Off t n a = (t + n ≤ a.at) ⊎ (a.at + a.len ≤ t)

-- a line lies apart from every area
abbrev pub Apart : ℕ → List Area → Type 0
Apart t [] = Unit
Apart t (a ∷ r) = Off t line_size a × Apart t r

-- "no named data covers a followed line": every line tried counts, a failing one too, with all its eight bytes
abbrev pub Clear : List ℕ → List Area → Type 0
Clear [] r = Unit
Clear (t ∷ ts) r = Apart t r × Clear ts r

-- a byte lies outside every area
abbrev pub Outside : ℕ → List Area → Type 0
Outside i [] = Unit
Outside i (a ∷ r) = Off i 1 a × Outside i r

-- areas lie apart from one another
abbrev pub Beside : Area → List Area → Type 0
Beside a [] = Unit
Beside a (c ∷ r) = Off a.at a.len c × Beside a r

abbrev pub Separate : List Area → Type 0
Separate [] = Unit
Separate (a ∷ r) = Beside a r × Separate r

-- ---- what is asked of a command, its table and the lent memory

-- "on a read no named data covers a followed line"
abbrev pub Uncovered : Way → Trace → Type 0
Uncovered Write s = Unit
Uncovered Read s = Clear s.lines s.named

pub record Premise (way : Way) (size : ℕ) (blocks : BlockCount) (table : ℕ) (buffer mem : List ℕ) (lines : ℕ) : Type 0 where
  -- what an issued command has: a block of at least one byte, which the buffer holds
  pub positive : 0 < size
  pub small : size ≤ length buffer
  -- "the same permitted memory is lent"
  pub permitted : length mem ≤ memory_limit
  -- "whose table reaches End or a fault within N lines"
  pub reaches : (trace_of mem lines table (times blocks size)).kind ≢ Limit
  -- "on a read no named data covers a followed line"
  pub clear : Uncovered way (trace_of mem lines table (times blocks size))

-- ---- what is promised

-- "a turn, the response or a block is always accepted"
pub data Open (size : ℕ) (w : World) : Type 0 where
  by_turn : number_of (turn_of w.dat w.table w.buffer w.memory).0.answer ≡ 0 → Open size w
  by_reply : awaits_of w.dat ≡ true → Open size w
  by_given : ((block : List ℕ) → length block ≡ size → number_of (given_of w.dat w.buffer block).0.answer ≡ 0) → Open size w
  by_taken : ((room : List ℕ) → size ≤ length room → number_of (taken_of w.dat w.buffer room).0.answer ≡ 0) → Open size w

-- the end that a table gives, and how the DAT side then stands
abbrev pub end_of : Kind → Outcome
end_of Well = Completes
end_of (Error f) = Fails f
end_of Limit = Goes  -- `reaches` rules this out

abbrev pub ends_as : Way → Kind → Dat
ends_as way Well = Free
ends_as way (Error f) = Halted way
ends_as way Limit = Halted way  -- `reaches` rules this out

-- the bytes carried when a transfer has ended, by memory then and the bytes that have passed: on a write the blocks taken, and at most one block
-- left in the buffer, are the named bytes in order; on a read memory is what it was, with the named areas filled in order by the blocks given
abbrev pub Carried : Way → (size : ℕ) (mem : List ℕ) (named : List Area) (after passed : List ℕ) → Type 0
Carried Write size mem named after passed = (rest : List ℕ) × (length rest ≤ size) × (passed ++ rest ≡ named_bytes mem named)
Carried Read size mem named after passed = after ≡ fill mem named passed

-- "nothing else touched", at any time: a write leaves memory, a read leaves every byte outside the named areas
abbrev pub Kept : Way → (mem : List ℕ) (named : List Area) (after : List ℕ) → Type 0
Kept Write mem named after = after ≡ mem
Kept Read mem named after = (length after ≡ length mem) × ((i : ℕ) → Outside i named → get_or after i 0 ≡ get_or mem i 0)

-- the blocks of a transfer that has completed: on a write they are, joined, the named bytes in order; on a read, where the named areas lie apart,
-- these hold them, joined, in order
abbrev pub Delivered : Way → (mem : List ℕ) (named : List Area) (after passed : List ℕ) → Type 0
Delivered Write mem named after passed = passed ≡ named_bytes mem named
Delivered Read mem named after passed = Separate named → named_bytes after named ≡ passed

pub record Demand (way : Way) (size : ℕ) (blocks : BlockCount) (table : ℕ) (mem : List ℕ) (lines : ℕ) (w : World) : Type 0 where
  -- "at most 2N + B turns do something"
  pub bounded : w.turns ≤ 2 * lines + blocks.0
  -- with the response and the blocks, so many steps are accepted in all
  pub counted : w.steps ≤ 2 * lines + 2 * blocks.0 + 1
  -- "until the transfer ends a turn, the response or a block is always accepted"
  pub lively : runs_of w.dat ≡ true → Open size w
  -- it ends as the table says, and stands so
  pub outcome : runs_of w.dat ≡ false → w.told ≡ end_of (trace_of mem lines table (times blocks size)).kind
  pub stands : runs_of w.dat ≡ false → w.dat ≡ ends_as way (trace_of mem lines table (times blocks size)).kind
  pub carried : runs_of w.dat ≡ false → Carried way size mem (trace_of mem lines table (times blocks size)).named w.memory w.passed
  -- DMA Interrupt is raised once by each line done with Int, and by nothing else
  pub rung : runs_of w.dat ≡ false → w.rings ≡ (trace_of mem lines table (times blocks size)).rings
  pub ringing : w.rings ≤ (trace_of mem lines table (times blocks size)).rings
  pub kept : Kept way mem (trace_of mem lines table (times blocks size)).named w.memory
  -- told complete, DAT is free and B whole blocks have passed
  pub whole : w.told ≡ Completes → (w.dat ≡ Free) × (length w.passed ≡ (times blocks size).0)
