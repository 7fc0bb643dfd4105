-- The card's events: in and out, the response, the interrupt level (01 "Commands and card events"). Assumes nothing: these are definitions.
use Rattle.std.specs.Prelude.{ℕ, ◌+◌, ◌*◌, ◌/◌, ◌%◌, Bool, true, false, cond, not, ◌&&◌, ◌||◌, eqb}
use Rattle.std.specs.Prelude.{Result, Ok, Err}
use Rattle.terms.specs.declared.Refusal.{Refusal}
use Rattle.terms.specs.declared.Refusal.TheVariants.{OutOfTurn}
use Rattle.registers.specs.Block.{with_reply, unplugged}
use Rattle.registers.specs.declared.block.Reply.{Reply}
use Rattle.registers.specs.declared.interrupt.Event.{Event}
use Rattle.registers.specs.declared.interrupt.Event.TheVariants.{CommandComplete, CardInsertion, CardRemoval, CommandTimeout, CommandCrc, CommandEndBit, CommandIndex}
use Rattle.controller.specs.Slot.{Stepped, halted_command, halted_dat, awaited_halts, answered_dat, raised_at, with_sides, stepped_as}
use Rattle.controller.specs.declared.card.ResponseError.{ResponseError}
use Rattle.controller.specs.declared.card.ResponseError.TheVariants as error
use Rattle.controller.specs.declared.slot.Kind.{Kind}
use Rattle.controller.specs.declared.slot.Kind.TheVariants.{Silent, Long, Short, ShortBusy}
use Rattle.controller.specs.declared.slot.Waiting.{Waiting}
use Rattle.controller.specs.declared.slot.Command.{Command}
use Rattle.controller.specs.declared.slot.Command.TheVariants.{Idle, Waits, Halted}
use Rattle.controller.specs.declared.slot.Slot.{Slot}

-- ---- "Card in / out: 7 if already so."

-- "In sets Card Insertion."
abbrev pub in_of : Slot → Stepped
in_of s =
    cond s.card (stepped_as (Err OutOfTurn) s)
    (stepped_as (Ok 0)
    (record { registers = raised_at CardInsertion s.registers; card = true; level = s.level; command = s.command; dat = s.dat }))

-- "Out sets Card Removal, clears SD Bus Power, SD Clock Enable and the interrupt level, halts command and DAT use."
abbrev pub out_of : Slot → Stepped
out_of s =
    cond s.card
    (stepped_as (Ok 0)
    (record {
      registers = raised_at CardRemoval (unplugged s.registers);
      card = false;
      level = false;
      command = halted_command s.command;
      dat = halted_dat s.dat;
    }))
    (stepped_as (Err OutOfTurn) s)

-- "Interrupt level: needs a card."
abbrev pub level_of : Slot → Bool → Stepped
level_of s up =
    cond s.card (stepped_as (Ok 0) (record { registers = s.registers; card = s.card; level = up; command = s.command; dat = s.dat }))
    (stepped_as (Err OutOfTurn) s)

-- ---- "Response, to a waiting command: 0 good; 1 timeout, 2 CRC, 3 end bit, 4 index."

abbrev pub is_silent : Kind → Bool
is_silent Silent = true
is_silent Long = false
is_silent Short = false
is_silent ShortBusy = false

-- "Out of turn: errors for type 00b, 2 or 4 with that check off, numbers over 4": an error that fits
abbrev pub fits_error : Waiting → ℕ → Bool
fits_error w n = not (is_silent w.kind) && (eqb n 1 || eqb n 2 && w.crc || eqb n 3 || eqb n 4 && w.index)

-- an error that a response can have, by its number: "1 timeout, 2 CRC, 3 end bit, 4 index"; "numbers over 4" are out of turn
abbrev pub error_number : ResponseError → ℕ
error_number error.Timeout = 1
error_number error.Crc = 2
error_number error.EndBit = 3
error_number error.Index = 4

abbrev pub error_at : ℕ → Result ResponseError Refusal
error_at n =
    cond (eqb n 1) (Ok error.Timeout)
    (cond (eqb n 2) (Ok error.Crc)
    (cond (eqb n 3) (Ok error.EndBit)
    (cond (eqb n 4) (Ok error.Index) (Err OutOfTurn))))

-- "An error sets error bit 0 to 3"
abbrev pub error_event : ℕ → Event
error_event n = cond (eqb n 1) CommandTimeout (cond (eqb n 2) CommandCrc (cond (eqb n 3) CommandEndBit CommandIndex))

-- "types 10b and 11b store one word at 010h, 01b four words but keeps byte 01Fh"
abbrev pub reply_after : Kind → Reply → Reply → Reply
reply_after Silent words old = old
reply_after Long words old =
    record {
      first = words.first;
      second = words.second;
      third = words.third;
      fourth = old.fourth / 0x1000000 * 0x1000000 + words.fourth % 0x1000000;
    }
reply_after Short words old = record { first = words.first; second = old.second; third = old.third; fourth = old.fourth }
reply_after ShortBusy words old = record { first = words.first; second = old.second; third = old.third; fourth = old.fourth }

-- "Good: Command Complete, bit 0 falls"
abbrev pub good_of : Slot → Waiting → Reply → Slot
good_of s w words =
    let r = with_reply s.registers (reply_after w.kind words s.registers.reply) in
    with_sides s (raised_at CommandComplete r) Idle (answered_dat s.dat)

-- "An error ... halts the command and its own data or busy."
abbrev pub failed_of : Slot → ℕ → Slot
failed_of s n = with_sides s (raised_at (error_event n) s.registers) Halted (awaited_halts s.dat)

abbrev pub answer_of : Slot → Waiting → ℕ → Reply → Stepped
answer_of s w n words =
    cond (eqb n 0) (stepped_as (Ok 0) (good_of s w words))
    (cond (fits_error w n) (stepped_as (Ok 0) (failed_of s n)) (stepped_as (Err OutOfTurn) s))

abbrev pub respond_to : Command → Slot → ℕ → Reply → Stepped
respond_to Idle s n words = stepped_as (Err OutOfTurn) s
respond_to (Waits w) s n words = answer_of s w n words
respond_to Halted s n words = stepped_as (Err OutOfTurn) s

unfoldable pub respond_of : Slot → ℕ → Reply → Stepped
respond_of s n words = respond_to s.command s n words
