-- What holds of a transfer all along: what it has carried, what is to come, and the turns that are left to it. Assumes nothing.
use Prim.Native.Nat.{ℕ, zero, suc, ◌+◌, ◌*◌, ◌≤◌, ◌<◌}
use native.Mathlib.Omega.{arith}
use mathlib.Core.Path.{◌≡◌, refl}
use mathlib.Core.List.{List, ◌++◌}
use mathlib.Core.Bool.{Bool, true, false}
use lib.ListN.{length, get_or}
use Rattle.table.specs.Trace.{Area, Trace, named_bytes, fill}
use Rattle.engine.specs.Transfer.{ending, settled}
use Rattle.engine.specs.Demand.{Clear, Outside}
use Rattle.engine.proofs.Names.{Way, Read, Write, Next, Fetch, Move, Stop, Finish, Fail}
use Rattle.engine.proofs.Coming.{coming, weight}

-- what a transfer was issued with: the block size, the blocks, the lines that its table is followed for, memory, and the table's trace
pub record Goal : Type 0 where
  pub size : ℕ
  pub blocks : ℕ
  pub lines : ℕ
  pub memory : List ℕ
  pub trace : Trace

-- "at most 2N + B turns do something"
abbrev pub allowed : Goal → ℕ
allowed G = 2 * G.lines + G.blocks

-- the blocks not yet given or taken, the bytes not yet moved, those that the buffer holds, memory, and the bytes that have passed
pub record Cargo : Type 0 where
  pub left : ℕ
  pub owed : ℕ
  pub held : List ℕ
  pub memory : List ℕ
  pub passed : List ℕ

-- a transfer at some time, but for where it is: its cargo, its response, 058h, and what was counted
pub record Now : Type 0 where
  pub cargo : Cargo
  pub answered : Bool
  pub table : ℕ
  pub rings : ℕ
  pub turns : ℕ
  pub steps : ℕ

-- ---- the counters, by the way and by where the transfer is

-- a write holds bytes that are owed no longer, a read holds bytes that are still owed
abbrev pub Count : Way → (size left owed held : ℕ) → Type 0
Count Write size left owed held = left * size ≡ owed + held
Count Read size left owed held = owed ≡ left * size + held

-- a line in hand has bytes left, all owed and in memory; a stopped engine waits for the last block to be taken; at the end none is left
unfoldable pub Shape : Way → (size left owed held room : ℕ) → Next → Type 0
Shape way size left owed held room Fetch = Unit
Shape way size left owed held room (Move d) = (0 < d.rest.0) × (d.rest.0 ≤ owed) × (d.at + d.rest.0 ≤ room)
Shape way size left owed held room Stop = (way ≡ Write) × (owed ≡ 0) × (held ≡ size)
Shape way size left owed held room Finish = (left ≡ 0) × (held ≡ 0)
Shape way size left owed held room (Fail state) = Unit

-- of a cargo
abbrev pub ShapeOf : Way → Goal → Cargo → Next → Type 0
ShapeOf way G c st = Shape way G.size c.left c.owed (length c.held) (length c.memory) st

-- ---- by the way, with the lines and the data to come, and the turns that are spent once all of it is followed

-- a turn that leaves its line in hand has filled the buffer, so it is paid by the block that is then taken
pub record Writing (G : Goal) (c : Cargo) (named : List Area) (spent : ℕ) : Type 0 where
  pub paid : spent + c.left ≤ suc (allowed G)
  pub spare : length c.held < G.size → spent + c.left ≤ allowed G
  pub same : c.memory ≡ G.memory
  pub carried : c.passed ++ (c.held ++ named_bytes c.memory named) ≡ named_bytes G.memory G.trace.named

-- a turn that leaves its line in hand has emptied the buffer, so it was paid by the block that was given
pub record Reading (G : Goal) (c : Cargo) (lines : List ℕ) (named : List Area) (spent : ℕ) : Type 0 where
  pub paid : spent + c.left ≤ allowed G
  pub spare : 0 < length c.held → spent + c.left < allowed G
  pub clear : Clear lines named
  pub others : (i : ℕ) → Outside i G.trace.named → Outside i named × (get_or c.memory i 0 ≡ get_or G.memory i 0)
  pub carried : (more : List ℕ) → fill c.memory named (c.held ++ more) ≡ fill G.memory G.trace.named (c.passed ++ more)

-- of either way
abbrev pub Side : Way → Goal → Cargo → List ℕ → List Area → ℕ → Type 0
Side Write G c lines named spent = Writing G c named spent
Side Read G c lines named spent = Reading G c lines named spent

-- ---- the invariant

-- the response is a step that is no turn and no block
unfoldable pub one : Bool → ℕ
one true = 1
one false = 0

-- it is at most one
pub one_most : (t : Bool) → one t ≤ 1
unfolding one
one_most true = omega arith
one_most false = omega arith

-- the trace that a state has yet to follow
abbrev pub comes : ℕ → Now → Next → Trace
comes n s st = coming n s.cargo.memory s.table s.cargo.owed st

-- a transfer of a way, with so many lines yet to follow
pub record Inv (way : Way) (G : Goal) (n : ℕ) (s : Now) (st : Next) : Type 0 where
  pub within : length s.cargo.held ≤ G.size
  pub long : length s.cargo.memory ≡ length G.memory
  pub shared : length s.cargo.passed + s.cargo.left * G.size ≡ G.blocks * G.size
  pub tallied : s.steps + s.cargo.left ≡ s.turns + G.blocks + one s.answered
  pub kind : (comes n s st).kind ≡ G.trace.kind
  pub rung : s.rings + (comes n s st).rings ≡ G.trace.rings
  pub count : Count way G.size s.cargo.left s.cargo.owed (length s.cargo.held)
  pub shape : ShapeOf way G s.cargo st
  pub side : Side way G s.cargo (comes n s st).lines (comes n s st).named (s.turns + weight n st)

-- ---- once a line is done

module _ (size : ℕ) (positive : 0 < size) (room : ℕ) where
  -- "engine stopped well, nothing owed": then all is done, or it is a write whose last block stands in the buffer
  pub ending_shape : (way : Way) (left owed held : ℕ) → owed ≡ 0 → held ≤ size → Count way size left owed held
      → Shape way size left owed held room (ending left held)
  unfolding Shape ending
  ending_shape way zero owed zero none fits e = (refl, refl)
  ending_shape Write zero owed (suc held) none fits e = absurd (omega arith)
  ending_shape Write (suc left) owed held none fits e = (refl, none, omega arith)
  ending_shape Read zero owed (suc held) none fits e = absurd (omega arith)
  ending_shape Read (suc left) owed held none fits e = absurd (omega arith)

  -- "A line done with End stops the engine"
  pub settled_shape : (last : Bool) (way : Way) (left owed held : ℕ) → held ≤ size → Count way size left owed held
      → Shape way size left owed held room (settled last owed left held)
  unfolding Shape settled
  settled_shape true way left zero held fits e = ending_shape way left 0 held refl fits e
  settled_shape true way left (suc owed) held fits e = tt
  settled_shape false way left owed held fits e = tt
