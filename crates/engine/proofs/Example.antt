-- The paper's table by computation: a write, a read with refused steps, an error; demand 3's premises hold of each. Assumes nothing.
use Prim.Native.Nat.{ℕ, ◌≤◌, ◌<◌}
use native.Mathlib.Omega.{arith}
use mathlib.Core.Path.{◌≡◌, refl, ap}
use mathlib.Core.Logic.{◌≢◌, inl}
use mathlib.Core.List.{List, [], ◌∷◌, ◌++◌}
use mathlib.Core.Bool.{true, false}
use lib.ListN.{replicate, length-replicate}
use Rattle.terms.specs.Counts.{times, bytes, blocks}
use Rattle.table.specs.declared.fetch.Failure.TheVariants as failure
use Rattle.table.specs.Line.{byte_of, length_of, address_of, flags_of}
use Rattle.table.specs.Fetch.{fetch_of}
use Rattle.table.specs.Trace.{ring_of, onward, along, trace_of}
use Rattle.table.specs.declared.survey.Kind.{Kind}
use Rattle.table.specs.declared.survey.Kind.TheVariants.{Limit}
use Rattle.table.specs.Survey.{kind_of, boot_of, yes_of}
use Rattle.table.specs.Bench.{memory}
use Rattle.engine.specs.Transfer.{ending, settled, issued}
use Rattle.engine.specs.Turn.{seen, further, done_rest, moving_of, running_of, staged_of}
use Rattle.engine.specs.Block.{may_give, give_of, may_take, take_of}
use Rattle.engine.specs.Run.{reply, go, given, taken, next, run, start}
use Rattle.engine.specs.Demand.{Uncovered, Premise}
use Rattle.engine.proofs.Names.{BlockCount, Way, Read, Write, Free, Halted, Completes, Fails}

-- 512 bytes, lent for the buffer or for a block taken
abbrev zeros : List ℕ
zeros = replicate 512 0

-- the eight bytes that the table names
abbrev eight : List ℕ
eight = 0x11 ∷ 0x22 ∷ 0x33 ∷ 0x44 ∷ 0x55 ∷ 0x66 ∷ 0x77 ∷ 0x88 ∷ []

-- what is asked of the paper's memory, whatever its table's first byte, and of one line
premise : (way : Way) (size : ℕ) (n : BlockCount) (first : ℕ) → 0 < size → size ≤ 512 → (trace_of (memory first 0x10) 1 0 (times n size)).kind ≢ Limit
    → Uncovered way (trace_of (memory first 0x10) 1 0 (times n size)) → Premise way size n 0 zeros (memory first 0x10) 1
premise way size n first positive small reaches sure =
    record { positive = positive; small = omega (arith, length-replicate {A = ℕ} 512 0); permitted = omega arith; reaches = reaches; clear = sure }

not_limit : (k : Kind) (n : ℕ) → kind_of k ≡ n → n < 2 → k ≢ Limit
not_limit k n e h f = omega (arith, ap kind_of f)

-- ---- the paper's run: its response, two turns, the block taken

-- one block of eight, one line
pub write_premise : Premise Write 8 (blocks 1) 0 zeros (memory 0x23 0x10) 1
unfolding trace_of along onward fetch_of byte_of length_of address_of flags_of
write_premise = premise Write 8 (blocks 1) 0x23 (omega arith) (omega arith) (not_limit _ 0 refl (omega arith)) tt

-- "10 0 ... 11 0 ... 12 0 00000008 ... 13 0 00000008": it completes, and the block taken is the eight bytes
pub paper_write : run (start (issued Write false 8 (blocks 1)) 0 zeros (memory 0x23 0x10)) (reply ∷ go ∷ go ∷ taken zeros ∷ [])
    ≡ record {
      dat = Free;
      table = 8;
      told = Completes;
      buffer = eight ++ replicate 504 0;
      memory = memory 0x23 0x10;
      passed = eight;
      rings = 0;
      turns = 2;
      steps = 4;
    }
unfolding next run fetch_of byte_of length_of address_of flags_of ring_of ending settled seen further done_rest moving_of running_of staged_of may_take take_of
paper_write = refl

-- the boot check says yes of this table
pub paper_boot : yes_of (boot_of (memory 0x23 0x10) 0 (bytes 8)) ≡ true
unfolding trace_of along onward fetch_of byte_of length_of address_of flags_of
paper_boot = refl

-- ---- a read of two blocks of four into the same data, its line with Int

-- the line's eight bytes at 0 lie apart from its data at 10h
pub read_premise : Premise Read 4 (blocks 2) 0 zeros (memory 0x27 0x10) 1
unfolding trace_of along onward fetch_of byte_of length_of address_of flags_of
read_premise = premise Read 4 (blocks 2) 0x27 (omega arith) (omega arith) (not_limit _ 0 refl (omega arith)) ((inl (omega arith), tt), tt)

-- refused and without effect: a turn before the response, a move and a taken block with the buffer empty, a block while it is full, a block too
-- short, and all that follows the end
pub read_run :
    run (start (issued Read true 4 (blocks 2)) 0 zeros (memory 0x27 0x10))
    (go
    ∷ reply
    ∷ go
    ∷ go
    ∷ taken zeros
    ∷ given (1 ∷ 2 ∷ 3 ∷ 4 ∷ [])
    ∷ given (5 ∷ 6 ∷ 7 ∷ 8 ∷ [])
    ∷ go
    ∷ given (9 ∷ [])
    ∷ given (5 ∷ 6 ∷ 7 ∷ 8 ∷ [])
    ∷ go
    ∷ go
    ∷ given (1 ∷ 2 ∷ 3 ∷ 4 ∷ [])
    ∷ [])
    ≡ record {
      dat = Free;
      table = 8;
      told = Completes;
      buffer = 5 ∷ 6 ∷ 7 ∷ 8 ∷ replicate 508 0;
      memory = 0x27 ∷ 0 ∷ 8 ∷ 0 ∷ 0x10 ∷ 0 ∷ 0 ∷ 0 ∷ 0 ∷ 0 ∷ 0 ∷ 0 ∷ 0 ∷ 0 ∷ 0 ∷ 0 ∷ 1 ∷ 2 ∷ 3 ∷ 4 ∷ 5 ∷ 6 ∷ 7 ∷ 8 ∷ [];
      passed = 1 ∷ 2 ∷ 3 ∷ 4 ∷ 5 ∷ 6 ∷ 7 ∷ 8 ∷ [];
      rings = 1;
      turns = 3;
      steps = 6;
    }
unfolding next run fetch_of byte_of length_of address_of flags_of ring_of ending settled seen further done_rest moving_of running_of staged_of may_take take_of may_give give_of
read_run = refl

-- ---- "first byte 22h: 1, 01h": Valid is 0

-- the table reaches its fault within one line
pub fault_premise : Premise Write 8 (blocks 1) 0 zeros (memory 0x22 0x10) 1
unfolding trace_of along onward fetch_of byte_of length_of address_of flags_of
fault_premise = premise Write 8 (blocks 1) 0x22 (omega arith) (omega arith) (not_limit _ 1 refl (omega arith)) tt

-- it halts in state 01, 058h stays, nothing moves, and no turn is accepted any more
pub fault_run : run (start (issued Write false 8 (blocks 1)) 0 zeros (memory 0x22 0x10)) (reply ∷ go ∷ go ∷ [])
    ≡ record {
      dat = Halted Write;
      table = 0;
      told = Fails failure.Unsound;
      buffer = zeros;
      memory = memory 0x22 0x10;
      passed = [];
      rings = 0;
      turns = 1;
      steps = 2;
    }
unfolding next run fetch_of byte_of length_of address_of flags_of ring_of ending settled seen further done_rest moving_of running_of staged_of
fault_run = refl
