-- Buffer and memory hold bytes after every step if they did before it and a given block does. Assumes nothing.
use Prim.Native.Nat.{ℕ, ◌-◌}
use mathlib.Core.List.{List}
use mathlib.Core.Bool.{Bool, true, false}
use lib.ListN.{length}
use lib.Dec.{eqb}
use Rattle.terms.specs.Counts.{least}
use Rattle.table.specs.Memory.{in_memory, index_of, too_large}
use Rattle.engine.specs.Buffer.{block_of, held_of, ready_of}
use Rattle.engine.proofs.Exactly as engine
use Rattle.engine.specs.Block.{given_of}
use Rattle.engine.specs.Turn.{carry_of, answered_of, moving_of, running_of, staged_of, turn_of}
use Rattle.engine.specs.declared.transfer.Dat.TheVariants as dat
use Rattle.controller.proofs.Names.{ByteCount, Way, Read, Write, Stage, Fetching, Moving, Stopped, Transfer, Dat, Turned, Passed}
use Rattle.controller.specs.Steps.{Step, read, write, card_in, card_out, response, block_given, block_taken, busy_over_step, data_error_step, level, turn, World, step_of}
use Rattle.controller.proofs.Causes.{by_test}
use Rattle.controller.proofs.Masks.{Bytes, bytes_drop, bytes_paste}

-- what a step brings: a given block is bytes
abbrev pub Brings : Step → Type 0
Brings (read offset width) = Unit
Brings (write offset width value) = Unit
Brings card_in = Unit
Brings card_out = Unit
Brings (response result words) = Unit
Brings (block_given block) = Bytes block
Brings (block_taken room) = Unit
Brings busy_over_step = Unit
Brings (data_error_step number) = Unit
Brings (level up) = Unit
Brings turn = Unit

-- a block given
given_bytes : (d : Dat) (x block : List ℕ) → Bytes x → Bytes block → Bytes (given_of d x block).1
given_bytes d x block h g = go (engine.given_case d x block)
  where
    go : {r : Passed × List ℕ} → engine.Given d x block r → Bytes r.1
    go (engine.out f) = h
    go (engine.wrong f n) = h
    go (engine.passed {t} e f n) = bytes_paste 0 (block_of t.size (length x)).0 h g

-- a turn
module _ (table : ℕ) (x mem : List ℕ) (h : Bytes x) (g : Bytes mem) where
  abbrev Both : Turned × List ℕ × List ℕ → Type 0
  Both r = Bytes r.1 × Bytes r.2

  carried : (way : Way) (t : Transfer) (at : ℕ) (count : ByteCount) → Bytes (carry_of way t x mem at count).1 × Bytes (carry_of way t x mem at count).2
  carried Write t at count = (bytes_paste (held_of t.size (length x) t.held).0 count.0 h (bytes_drop (index_of at) g), g)
  carried Read t at count =
      (h, bytes_paste (index_of at) count.0 g (bytes_drop ((block_of t.size (length x)).0 - (held_of t.size (length x) t.held).0) h))

  asked : (b : Bool) (t : Transfer) (r : Turned × List ℕ × List ℕ) → Both r → Both (answered_of b t table x mem r)
  asked true t r p = p
  asked false t r p = (h, g)

  staged : (s : Stage) (t : Transfer) → Both (running_of s t table x mem)
  unfolding running_of moving_of
  staged Stopped t = (h, g)
  staged Fetching t = asked t.answered t _ (h, g)
  staged (Moving hand) t =
      let ready = ready_of t.way t.size (length x) t.held in
      asked t.answered t (moving_of t table hand x mem)
      (by_test Both (eqb ready.0 0) (λ z. (h, g))
      (λ z. by_test Both (in_memory (length mem) hand.at (least hand.rest ready).0) (λ i. carried t.way t hand.at (least hand.rest ready)) (λ i. (h, g))))

  turn_bytes : (d : Dat) → Both (turn_of d table x mem)
  unfolding staged_of
  turn_bytes d = by_test Both (too_large mem) (λ l. (h, g)) (λ l. go d)
    where
      go : (d : Dat) → Both (staged_of d table x mem)
      go dat.Free = (h, g)
      go (dat.Busy answered) = (h, g)
      go (dat.Runs t) = staged t.stage t
      go dat.Stuck = (h, g)
      go (dat.Halted way) = (h, g)

-- "every lent byte": what was bytes is bytes
pub bytes_step : (w : World) (e : Step) → Brings e → Bytes w.buffer → Bytes w.memory
    → Bytes (step_of w e).world.buffer × Bytes (step_of w e).world.memory
unfolding step_of
bytes_step w (read offset width) b h g = (h, g)
bytes_step w (write offset width value) b h g = (h, g)
bytes_step w card_in b h g = (h, g)
bytes_step w card_out b h g = (h, g)
bytes_step w (response result words) b h g = (h, g)
bytes_step w (block_given block) b h g = (given_bytes w.slot.dat w.buffer block h b, g)
bytes_step w (block_taken room) b h g = (h, g)
bytes_step w busy_over_step b h g = (h, g)
bytes_step w (data_error_step number) b h g = (h, g)
bytes_step w (level up) b h g = (h, g)
bytes_step w turn b h g = turn_bytes w.slot.registers.adma.low w.buffer w.memory h g w.slot.dat
