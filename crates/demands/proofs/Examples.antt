-- "no premise is empty": three commands with the paper's settings, each granted what demand 3 asks, and a fair run of each to its end. Assumes nothing.
use Prim.Native.Nat.{ℕ, suc, ◌≤◌, ◌<◌}
use native.Mathlib.Omega.{arith}
use mathlib.Core.Path.{◌≡◌, refl, ap}
use mathlib.Core.Logic.{◌≢◌, inl, inr}
use mathlib.Core.List.{List, [], ◌∷◌, ◌++◌}
use mathlib.Core.Bool.{Bool, true, false}
use lib.ListN.{length, take, replicate, length-replicate}
use lib.Dec.{leb, eqb}
use Rattle.terms.specs.Counts.{blocks}
use Rattle.table.specs.Bench.{memory}
use Rattle.table.specs.Line.{line_bytes, byte_of, length_of, address_of, flags_of}
use Rattle.table.specs.Fetch.{fetch_of}
use Rattle.table.specs.Trace.{onward, along, trace_of}
use Rattle.table.specs.declared.survey.Kind.{Kind}
use Rattle.table.specs.declared.survey.Kind.TheVariants.{Limit}
use Rattle.table.specs.Survey.{kind_of}
use Rattle.registers.specs.Bits.{bit_of, without, put}
use Rattle.registers.specs.Place.{words, find, word_at, place_of, ones_of, lanes_of, placed_of, target_of, guarded}
use Rattle.registers.specs.Interrupt.{shown_status, line_of}
use Rattle.registers.specs.Word.{stays}
use Rattle.registers.specs.Reset.{reset_with}
use Rattle.registers.specs.Access as access
use Rattle.engine.specs.Transfer.{ending, settled, issued}
use Rattle.engine.specs.Turn.{seen, further, done_rest, moving_of, running_of, staged_of}
use Rattle.engine.specs.Block.{may_give, give_of, may_take, take_of}
use Rattle.engine.specs.Demand.{Uncovered}
use Rattle.engine.specs.declared.transfer.Way.{Way}
use Rattle.engine.specs.declared.transfer.Way.TheVariants.{Read, Write}
use Rattle.engine.specs.declared.transfer.Dat.{Dat}
use Rattle.engine.specs.declared.transfer.Dat.TheVariants.{Free, Halted}
use Rattle.controller.specs.Slot.{power_on, line_now}
use Rattle.controller.specs.Command.{request_of, command_step}
use Rattle.controller.specs.Card.{respond_of}
use Rattle.controller.specs.Data.{data_error}
use Rattle.controller.specs.Steps.{Step, read, write, card_in, response, block_given, block_taken, data_error_step, level, turn, World, step_of}
use Rattle.controller.specs.declared.slot.Command.{Command}
use Rattle.controller.specs.declared.slot.Command.TheVariants.{Idle, Waits}
use Rattle.controller.specs.declared.slot.Kind.TheVariants.{Short}
use Rattle.controller.proofs.Example.{start, steps}
use Rattle.demands.specs.Run.{deeds, reached, turns_done, passed}
use Rattle.demands.specs.Issued.{Issued, way_of, trace_at}
use Rattle.demands.specs.Granted.{Granted, AllFair}
use Rattle.demands.proofs.Whole.{demand_3_whole}

-- ---- what computes where an `unfolding` line names it

-- an access
accesses : Unit {0}
unfolding step_of bit_of without put words find word_at place_of ones_of lanes_of placed_of target_of guarded stays reset_with access.take_from access.take_of
accesses = tt

-- a table
tables : Unit {0}
unfolding trace_of along onward fetch_of byte_of length_of address_of flags_of
tables = tt

-- a response, a turn, a block
transfers : Unit {0}
unfolding respond_of ending settled seen further done_rest moving_of running_of staged_of may_give give_of may_take take_of data_error shown_status line_of
transfers = tt

-- ---- the paper's settings

-- 512 bytes, lent for the buffer or for a block taken
abbrev zeros : List ℕ
zeros = replicate 512 0

-- the slot at power-on, and a memory
abbrev powered : List ℕ → World
powered mem = record { slot = power_on; buffer = zeros; memory = mem }

-- "Steps: in; 02Ch/2=5; 029h/1=0Fh; ...", up to the command
abbrev settings : List Step
settings =
    card_in
    ∷ write 0x02C 2 0x5
    ∷ write 0x029 1 0x0F
    ∷ write 0x028 1 0x10
    ∷ write 0x034 4 0x03FF01FF
    ∷ write 0x038 4 0x2
    ∷ write 0x004 4 0x8
    ∷ write 0x058 4 0x0
    ∷ []

-- the world with these settings, and 00Ch to 00Fh, the command and the DAT side as given
abbrev set : ℕ → Command → Dat → List ℕ → World
set order command dat mem =
    record {
      slot =
          record {
            registers =
                record {
                  setup = record { system = 0; block = 8; argument = 0; order = order };
                  reply = record { first = 0; second = 0; third = 0; fourth = 0 };
                  control = record { host = 0x0F10; clock = 0x5 };
                  interrupts = record { status = 0; enabled = 0x03FF01FF; signal = 0x2 };
                  adma = record { fault = 0; low = 0; high = 0 };
                };
            card = true;
            level = false;
            command = command;
            dat = dat;
          };
      buffer = zeros;
      memory = mem;
    }

abbrev before : List ℕ → World
before mem = set 0 Idle Free mem

-- right after the command: one block of 8 bytes, response type 10b with both checks
abbrev after : ℕ → Way → List ℕ → World
after order way mem = set order (Waits (record { kind = Short; crc = true; index = true })) (issued way false 8 (blocks 1)) mem

-- the settings lead there from power-on, whatever the memory
pub prepared : (mem : List ℕ) → reached (powered mem) settings ≡ before mem
unfolding reached accesses
prepared mem = refl

-- the paper's command, from there
write_begins : (mem : List ℕ) → Issued (after 0x183A0001 Write mem)
unfolding accesses request_of command_step
write_begins mem =
    record { before = before mem; offset = 0x00C; width = 4; value = 0x183A0001; issuing = refl; accepted = refl; leads = refl; with_data = refl }

-- the same as a read, with index 17
read_begins : (mem : List ℕ) → Issued (after 0x113A0011 Read mem)
unfolding accesses request_of command_step
read_begins mem =
    record { before = before mem; offset = 0x00C; width = 4; value = 0x113A0011; issuing = refl; accepted = refl; leads = refl; with_data = refl }

-- a table whose kind is 0 or 1 does not meet the limit
not_limit : (k : Kind) (n : ℕ) → kind_of k ≡ n → n < 2 → k ≢ Limit
not_limit k n e h f = omega (arith, ap kind_of f)

-- what demand 3 asks of such a command, a memory, and a table of one line that ends well or in an error
granted : (order : ℕ) (way : Way) (mem : List ℕ) (n : ℕ) → Issued (after order way mem) → length mem ≤ 16777216
    → kind_of (trace_at (after order way mem) 1).kind ≡ n → n < 2 → Uncovered (way_of (after order way mem)) (trace_at (after order way mem) 1)
    → Granted (after order way mem) 1
granted order way mem n begins small kind ends clear =
    record {
      issued = begins;
      buffer = omega (arith, length-replicate {A = ℕ} 512 0);
      permitted = small;
      reaches = not_limit (trace_at (after order way mem) 1).kind n kind ends;
      clear = clear;
    }

-- ---- what is seen after a run

-- the DAT side, 030h with 032h above it, 054h, the line, memory, and the bytes that have passed
pub record View : Type 0 where
  pub dat : Dat
  pub status : ℕ
  pub fault : ℕ
  pub line : Bool
  pub memory : List ℕ
  pub passed : List ℕ

-- it is computed
unfoldable pub view_after : World → List Step → View
unfolding reached deeds passed accesses tables transfers
view_after w es =
    let v = reached w es in
    record {
      dat = v.slot.dat;
      status = v.slot.registers.interrupts.status;
      fault = v.slot.registers.adma.fault;
      line = line_now v.slot;
      memory = v.memory;
      passed = passed (deeds w es);
    }

-- "Response ...: 0 good"
abbrev good : Step
good = response 0 (record { first = 0x900; second = 0; third = 0; fourth = 0 })

-- ---- the paper's write

abbrev pub write_issued : World
write_issued = after 0x183A0001 Write (memory 0x23 0x10)

-- its steps up to the end, and with the two acknowledgements
abbrev pub write_steps : List Step
write_steps = read 0x024 4 ∷ good ∷ turn ∷ turn ∷ block_taken zeros ∷ read 0x030 2 ∷ []

abbrev pub write_cleared : List Step
write_cleared = write_steps ++ write 0x030 2 0x1 ∷ write 0x030 2 0x2 ∷ []

-- the worked example is this run
pub write_paper : (start ≡ powered (memory 0x23 0x10)) × (steps ≡ settings ++ write 0x00C 4 0x183A0001 ∷ write_cleared)
unfolding start steps
write_paper = (refl, refl)

-- what demand 3 asks of a command, its table and the memory
pub write_granted : Granted write_issued 1
unfolding request_of tables
write_granted = granted 0x183A0001 Write _ 0 (write_begins _) (omega arith) refl (omega arith) tt

-- and of every step
pub write_fair : AllFair (deeds write_issued write_cleared)
unfolding deeds
write_fair = (inr tt, (inr refl, (inr tt, (inr tt, (inr tt, (inr tt, (inr (omega arith), (inr (omega arith), tt))))))))

-- the eight bytes that its table names
abbrev eight : List ℕ
eight = 0x11 ∷ 0x22 ∷ 0x33 ∷ 0x44 ∷ 0x55 ∷ 0x66 ∷ 0x77 ∷ 0x88 ∷ []

-- it completes: DAT is free, Transfer Complete stands beside Command Complete, the line is up, the eight bytes have passed
pub write_ends : view_after write_issued write_steps
    ≡ record { dat = Free; status = 0x3; fault = 0; line = true; memory = memory 0x23 0x10; passed = eight }
unfolding view_after
write_ends = refl

-- acknowledged, both bits and the line are down
pub write_clears : view_after write_issued write_cleared
    ≡ record { dat = Free; status = 0; fault = 0; line = false; memory = memory 0x23 0x10; passed = eight }
unfolding view_after
write_clears = refl

-- "at most 2N + B turns do something": three, for its one line and its one block, in every fair order of steps
pub write_bound : (es : List Step) → AllFair (deeds write_issued es) → turns_done (deeds write_issued es) ≤ 3
unfolding request_of
write_bound es fair = (demand_3_whole write_issued 1 write_granted es fair).bound

-- ---- "first byte 22h: 1, 01h": Valid is 0

abbrev pub fault_issued : World
fault_issued = after 0x183A0001 Write (memory 0x22 0x10)

abbrev pub fault_steps : List Step
fault_steps = good ∷ turn ∷ turn ∷ []

-- what demand 3 asks of a command, its table and the memory
pub fault_granted : Granted fault_issued 1
unfolding request_of tables
fault_granted = granted 0x183A0001 Write _ 1 (write_begins _) (omega arith) refl (omega arith) tt

-- and of every step
pub fault_fair : AllFair (deeds fault_issued fault_steps)
unfolding deeds
fault_fair = (inr refl, (inr tt, (inr tt, tt)))

-- "the same permitted memory is lent": every memory of 1 to 16,777,216 bytes that begins with a line whose Valid is 0
not_valid : (rest : List ℕ) → (flags_of (line_bytes (0 ∷ rest) 0)).valid ≡ false
unfolding flags_of byte_of
not_valid rest = go (leb 8 (suc (length rest))) (eqb (suc (length (take 7 rest))) 8) refl refl
  where
    go : (t u : Bool) → leb 8 (suc (length rest)) ≡ t → eqb (suc (length (take 7 rest))) 8 ≡ u → (flags_of (line_bytes (0 ∷ rest) 0)).valid ≡ false
    go false u e f = rw e
    go true true e f = rw (e, f)
    go true false e f = rw (e, f)

pub largest_granted : (rest : List ℕ) → length rest < 16777216 → Granted (after 0x183A0001 Write (0 ∷ rest)) 1
unfolding request_of trace_of along fetch_of
largest_granted rest h = granted 0x183A0001 Write _ 1 (write_begins _) (omega arith) (rw (not_valid rest)) (omega arith) tt

-- it halts with 01h in 054h, the ADMA error stands, and the paper's settings do not signal it
pub fault_ends : view_after fault_issued fault_steps
    ≡ record { dat = Halted Write; status = 0x02000001; fault = 1; line = false; memory = memory 0x22 0x10; passed = [] }
unfolding view_after
fault_ends = refl

-- ---- a read by the paper's table

abbrev pub read_issued : World
read_issued = after 0x113A0011 Read (memory 0x23 0x10)

-- the block given
abbrev block : List ℕ
block = 1 ∷ 2 ∷ 3 ∷ 4 ∷ 5 ∷ 6 ∷ 7 ∷ 8 ∷ []

-- two that are refused stand among them: a data error before the response, a write to 004h while DAT is in use; and the card's level goes up
abbrev pub read_steps : List Step
read_steps = data_error_step 0 ∷ write 0x004 2 0x4 ∷ good ∷ level true ∷ turn ∷ block_given block ∷ turn ∷ []

-- what demand 3 asks of a command, its table and the memory: the line's eight bytes at 0 lie apart from its data at 10h
pub read_granted : Granted read_issued 1
unfolding request_of tables
read_granted = granted 0x113A0011 Read _ 0 (read_begins _) (omega arith) refl (omega arith) ((inl (omega arith), tt), tt)

-- and of every step
pub read_fair : AllFair (deeds read_issued read_steps)
unfolding deeds accesses transfers
read_fair = (inl (omega arith), (inl (omega arith), (inr refl, (inr tt, (inr tt, (inr tt, (inr tt, tt)))))))

-- it completes, and memory holds the block given
pub read_ends : view_after read_issued read_steps
    ≡ record {
      dat = Free;
      status = 0x3;
      fault = 0;
      line = true;
      memory = 0x23 ∷ 0 ∷ 8 ∷ 0 ∷ 0x10 ∷ 0 ∷ 0 ∷ 0 ∷ 0 ∷ 0 ∷ 0 ∷ 0 ∷ 0 ∷ 0 ∷ 0 ∷ 0 ∷ block;
      passed = block;
    }
unfolding view_after
read_ends = refl
