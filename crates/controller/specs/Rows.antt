-- The answer table, row by row: "Given exactly when", of every entry in every world. Each row is a list of its causes in the table's words, and
-- `proofs/Exactly` shows that the number is given exactly then. Assumes nothing: these are definitions.
use Rattle.std.specs.Prelude.{ℕ, ◌+◌, ◌*◌, ◌%◌, ◌^◌, ◌≤◌, ◌<◌, ◌≡◌, ◌⊎◌, ◌≢◌, List, Bool, true, false, length}
use Rattle.table.specs.Memory.{memory_limit}
use Rattle.registers.specs.Place.{limit, issues, guarded, edit_of}
use Rattle.registers.specs.Word.{in_use}
use Rattle.registers.specs.Block.{bus_power, bus_clock}
use Rattle.registers.specs.declared.block.Registers.{Registers}
use Rattle.registers.specs.declared.block.Reply.{Reply}
use Rattle.engine.specs.Buffer.{block_of, ready_of}
use Rattle.engine.specs.Block.{may_give, may_take}
use Rattle.engine.specs.declared.transfer.Stage.{Stage}
use Rattle.engine.specs.declared.transfer.Stage.TheVariants.{Moving, Stopped}
use Rattle.engine.specs.declared.transfer.Transfer.{Transfer}
use Rattle.engine.specs.declared.transfer.Dat.{Dat}
use Rattle.engine.specs.declared.transfer.Dat.TheVariants as dat
use Rattle.controller.specs.Slot.{use_of, occupied}
use Rattle.controller.specs.Command.{request_of, is_abort, uses_dat, not_carried, would_be}
use Rattle.controller.specs.Card.{fits_error}
use Rattle.controller.specs.Steps.{Step, read, write, card_in, card_out, response, block_given, block_taken, busy_over_step, data_error_step, level, turn, World}
use Rattle.controller.specs.declared.slot.Waiting.{Waiting}
use Rattle.controller.specs.declared.slot.Command.TheVariants as command
use Rattle.controller.specs.declared.slot.Slot.{Slot}

-- ---- the accesses

-- "width not 1, 2 or 4; offset not a multiple of the width; offset + width over 256"
abbrev pub NamesNoPlace : ℕ → ℕ → Type 0
NamesNoPlace offset width = ((width ≢ 1) × (width ≢ 2) × (width ≢ 4)) ⊎ (offset % width ≢ 0) ⊎ (limit < offset + width)

-- "value too big for the width"
abbrev pub WritesNoPlace : ℕ → ℕ → ℕ → Type 0
WritesNoPlace offset width value = NamesNoPlace offset width ⊎ (2 ^ (8 * width) ≤ value)

-- the registers as a command's write would leave them
abbrev pub as_written : Slot → ℕ → ℕ → ℕ → Registers
as_written s offset width value = would_be s (edit_of (offset % 4) width value)

-- a write that is a command: past the access test, with byte 00Fh among its bytes
abbrev pub Commands : ℕ → ℕ → ℕ → Type 0
Commands offset width value = (WritesNoPlace offset width value → ⊥) × (issues offset width ≡ true)

-- 4: "command with data or response type 11b, not Abort, while Command Inhibit (DAT) is 1"
abbrev pub Crosses : Slot → Registers → Type 0
Crosses s r = (uses_dat (request_of r) ≡ true) × (is_abort (request_of r) ≡ false) × (in_use (use_of s.dat) ≡ true)

-- 5: "SD Clock Enable or SD Bus Power is 0"
abbrev pub Dark : Registers → Type 0
Dark r = (bus_clock r ≡ false) ⊎ (bus_power r ≡ false)

-- 1: "width not 1, 2 or 4; offset not a multiple of the width; offset + width over 256; value too big for the width"
pub data Row1 (w : World) : Step → Type 0 where
  reads : {offset width : ℕ} → NamesNoPlace offset width → Row1 w (read offset width)
  writes : {offset width value : ℕ} → WritesNoPlace offset width value → Row1 w (write offset width value)

-- 2: "write wholly inside 004h-007h or 00Ch-00Dh while Command Inhibit (DAT) is 1"
pub data Row2 (w : World) : Step → Type 0 where
  guards : {offset width value : ℕ} → (WritesNoPlace offset width value → ⊥) → guarded offset width ≡ true → in_use (use_of w.slot.dat) ≡ true
      → Row2 w (write offset width value)

-- 3: "command while Command Inhibit (CMD) is 1"
pub data Row3 (w : World) : Step → Type 0 where
  waits : {offset width value : ℕ} → Commands offset width value → occupied w.slot.command ≡ true → Row3 w (write offset width value)

-- 4, after 3
pub data Row4 (w : World) : Step → Type 0 where
  crosses : {offset width value : ℕ} → Commands offset width value → occupied w.slot.command ≡ false
      → Crosses w.slot (as_written w.slot offset width value) → Row4 w (write offset width value)

-- 5, after 4
pub data Row5 (w : World) : Step → Type 0 where
  dark : {offset width value : ℕ} → Commands offset width value → occupied w.slot.command ≡ false
      → (Crosses w.slot (as_written w.slot offset width value) → ⊥)
      → Dark (as_written w.slot offset width value) → Row5 w (write offset width value)

-- 6, after 5: "command setting not carried"
pub data Row6 (w : World) : Step → Type 0 where
  uncarried : {offset width value : ℕ} → Commands offset width value → occupied w.slot.command ≡ false
      → (Crosses w.slot (as_written w.slot offset width value) → ⊥)
      → (Dark (as_written w.slot offset width value) → ⊥)
      → not_carried (request_of (as_written w.slot offset width value)) ≡ true → Row6 w (write offset width value)

-- ---- the card's events

-- "Busy over: busy, response in"
pub data Resting : Dat → Type 0 where
  rests : Resting (dat.Busy true)

-- "running transfer with response in (busy: 0 only)"; "Over 2: out of turn."
pub data Erring : Dat → ℕ → Type 0 where
  runs : {t : Transfer} {n : ℕ} → t.answered ≡ true → n ≤ 2 → Erring (dat.Runs t) n
  rests : Erring (dat.Busy true) 0

-- "Response, to a waiting command: 0 good", or an error that fits
pub data Responding : Slot → ℕ → Type 0 where
  good : {s : Slot} {v : Waiting} → s.command ≡ command.Waits v → Responding s 0
  fails : {s : Slot} {v : Waiting} {n : ℕ} → s.command ≡ command.Waits v → fits_error v n ≡ true → Responding s n

-- "running read, its response in, buffer empty, blocks left"; "running write, buffer full"
pub data Giving (w : World) : Type 0 where
  gives : {t : Transfer} → w.slot.dat ≡ dat.Runs t → may_give t (length w.buffer) ≡ true → Giving w

pub data Taking (w : World) : Type 0 where
  takes : {t : Transfer} → w.slot.dat ≡ dat.Runs t → may_take t (length w.buffer) ≡ true → Taking w

-- 7: "event out of turn"
pub data Row7 (w : World) : Step → Type 0 where
  already_in : w.slot.card ≡ true → Row7 w card_in
  already_out : w.slot.card ≡ false → Row7 w card_out
  no_response : {n : ℕ} {words : Reply} → (Responding w.slot n → ⊥) → Row7 w (response n words)
  no_giving : {block : List ℕ} → (Giving w → ⊥) → Row7 w (block_given block)
  no_taking : {room : List ℕ} → (Taking w → ⊥) → Row7 w (block_taken room)
  no_rest : (Resting w.slot.dat → ⊥) → Row7 w busy_over_step
  no_error : {n : ℕ} → (Erring w.slot.dat n → ⊥) → Row7 w (data_error_step n)
  no_card : {up : Bool} → w.slot.card ≡ false → Row7 w (level up)

-- 8: "block given of length other than the block size; room for a taken block below it"; "7 before 8". Where fewer bytes are lent for the buffer than a
-- block has, a block is what it holds (docs/DECISIONS.md, C16); the entries of `slot` lend 512
pub data Row8 (w : World) : Step → Type 0 where
  other_length : {t : Transfer} {block : List ℕ} → w.slot.dat ≡ dat.Runs t → may_give t (length w.buffer) ≡ true
      → length block ≢ (block_of t.size (length w.buffer)).0 → Row8 w (block_given block)
  small_room : {t : Transfer} {room : List ℕ} → w.slot.dat ≡ dat.Runs t → may_take t (length w.buffer) ≡ true
      → length room < (block_of t.size (length w.buffer)).0 → Row8 w (block_taken room)

-- ---- turns: "11, then 10, then 9"

-- "no transfer, a halted one, or engine stopped"
pub data Idling : Dat → Type 0 where
  free : Idling dat.Free
  busy : {answered : Bool} → Idling (dat.Busy answered)
  stopped : {t : Transfer} → t.stage ≡ Stopped → Idling (dat.Runs t)
  stuck : Idling dat.Stuck
  halted : {way : _} → Idling (dat.Halted way)

-- a move is due
pub data Due : Stage → Type 0 where
  due : {hand : _} → Due (Moving hand)

-- 9: "turn: its response awaited, or a move due with the buffer full (write) or empty (read)"
pub data Row9 (w : World) : Step → Type 0 where
  awaits : {t : Transfer} → length w.memory ≤ memory_limit → w.slot.dat ≡ dat.Runs t → t.stage ≢ Stopped → t.answered ≡ false → Row9 w turn
  no_bytes : {t : Transfer} → length w.memory ≤ memory_limit → w.slot.dat ≡ dat.Runs t → Due t.stage
      → (ready_of t.way t.size (length w.buffer) t.held).0 ≡ 0 → Row9 w turn

-- 10: "turn: no transfer, a halted one, or engine stopped"
pub data Row10 (w : World) : Step → Type 0 where
  idles : length w.memory ≤ memory_limit → Idling w.slot.dat → Row10 w turn

-- 11: "turn ...: lent memory over 16,777,216 bytes" (survey and boot check: crate table)
pub data Row11 (w : World) : Step → Type 0 where
  too_large : memory_limit < length w.memory → Row11 w turn
