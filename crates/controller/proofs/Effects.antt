-- What a step that is done makes of the slot: one list of effects for all entries; and the events that turn on one test alone. Assumes nothing.
use Prim.Native.Nat.{ℕ}
use mathlib.Core.Path.{◌≡◌, refl}
use mathlib.Core.Bool.{Bool, true, false, cond, not, ◌||◌}
use lib.Dec.{eqb}
use Rattle.registers.specs.Block.{unplugged}
use Rattle.engine.proofs.Exactly.{Reaches}
use Rattle.engine.specs.declared.transfer.Dat.TheVariants as dat
use Rattle.controller.specs.Slot.{halted_command, halted_dat, raised_at, with_sides, stepped_as}
use Rattle.controller.specs.Command.{would_be, issue_of}
use Rattle.controller.specs.Access.{store_of}
use Rattle.controller.specs.Card.{fits_error, in_of, out_of, level_of, good_of, failed_of, respond_to, respond_of}
use Rattle.controller.specs.Data.{passed_of, busy_over_at, busy_over, data_event, data_error_at, data_error, turned_of}
use Rattle.controller.specs.Steps.{World}
use Rattle.controller.specs.declared.slot.Command.TheVariants as command
use Rattle.controller.proofs.Names.{OutOfTurn, Dat, Outcome, Turned, Request, Command, Slot, Stepped, Waiting, Reply, Event, Ok, Err}
use Rattle.controller.proofs.Names.{CardInsertion, CardRemoval, TransferComplete, Edit, Word, Resets}
use Rattle.controller.proofs.Causes.{by_test, resting, erring, responding}

-- does a use of the DAT side await its response?
abbrev pub awaiting : Dat → Bool
awaiting dat.Free = false
awaiting (dat.Busy answered) = not answered
awaiting (dat.Runs t) = not t.answered
awaiting dat.Stuck = false
awaiting (dat.Halted way) = false

-- 058h after a turn: as it was, or as a fetch leaves it
abbrev pub Reached : World → ℕ → Type 0
Reached w n = Reaches w.slot.registers.adma.low w.memory n

-- "In sets Card Insertion."
abbrev pub came_of : Slot → Slot
came_of s = record { registers = raised_at CardInsertion s.registers; card = true; level = s.level; command = s.command; dat = s.dat }

-- "Out sets Card Removal, clears SD Bus Power, SD Clock Enable and the interrupt level, halts command and DAT use."
abbrev pub left_of : Slot → Slot
left_of s =
    record {
      registers = raised_at CardRemoval (unplugged s.registers);
      card = false;
      level = false;
      command = halted_command s.command;
      dat = halted_dat s.dat;
    }

-- "Interrupt level"
abbrev pub levelled_of : Slot → Bool → Slot
levelled_of s up = record { registers = s.registers; card = s.card; level = up; command = s.command; dat = s.dat }

-- the slot after a step that is done: as it was; after a write that stores or resets, or one that issues; with a card, without; after a response,
-- good or not; with the card's level; with an event told; after a block; after a turn. No step but a command's makes the DAT side await
pub data Effect (w : World) : Slot → Type 0 where
  same : Effect w w.slot
  stores : (word : Word) (e : Edit) (which : Resets) → Effect w (store_of w.slot word e which)
  issues : (e : Edit) (q : Request) → Effect w (issue_of w.slot (would_be w.slot e) q)
  comes : Effect w (came_of w.slot)
  leaves : Effect w (left_of w.slot)
  replies : (v : Waiting) (words : Reply) → Effect w (good_of w.slot v words)
  errs : (n : ℕ) → Effect w (failed_of w.slot n)
  levels : (up : Bool) → w.slot.card ≡ true → Effect w (levelled_of w.slot up)
  tells : (d : Dat) (event : Event) → awaiting d ≡ false → Effect w (with_sides w.slot (raised_at event w.slot.registers) w.slot.command d)
  passes : (d : Dat) (o : Outcome) → (awaiting d ≡ true → awaiting w.slot.dat ≡ true) → Effect w (passed_of w.slot d o)
  turns : (t : Turned) → Reached w t.table → (awaiting t.dat ≡ true → awaiting w.slot.dat ≡ true) → Effect w (turned_of w.slot t).slot

-- ---- the card's events: each turns on one test

-- done, with an effect, or out of turn, by a test
abbrev pub Hinges : World → Bool → Stepped → Type 0
Hinges w t x =
    (after : Slot) × (x ≡ cond t (stepped_as (Ok 0) after) (stepped_as (Err OutOfTurn) w.slot)) × (t ≡ true → Effect w after)

-- "Card in / out: 7 if already so."
pub in_hinges : (w : World) → Hinges w (not w.slot.card) (in_of w.slot)
in_hinges w = (_, turned w.slot.card _ _, λ e. comes)
  where
    turned : {A : Type 0} (t : Bool) (a b : A) → cond t a b ≡ cond (not t) b a
    turned true a b = refl
    turned false a b = refl

-- "Card in / out: 7 if already so."
pub out_hinges : (w : World) → Hinges w w.slot.card (out_of w.slot)
out_hinges w = (_, refl, λ e. leaves)

-- "Interrupt level: needs a card."
pub level_hinges : (w : World) (up : Bool) → Hinges w w.slot.card (level_of w.slot up)
level_hinges w up = (_, refl, λ e. levels up e)

-- "Busy over: busy, response in"
pub busy_hinges : (w : World) → Hinges w (resting w.slot.dat) (busy_over w.slot)
unfolding busy_over
busy_hinges w = go w.slot.dat
  where
    go : (d : Dat) → Hinges w (resting d) (busy_over_at d w.slot)
    go dat.Free = (w.slot, refl, λ e. same)
    go (dat.Busy answered) = (_, refl, λ e. tells dat.Free TransferComplete refl)
    go (dat.Runs t) = (w.slot, refl, λ e. same)
    go dat.Stuck = (w.slot, refl, λ e. same)
    go (dat.Halted way) = (w.slot, refl, λ e. same)

-- "running transfer with response in (busy: 0 only)"
pub error_hinges : (w : World) (n : ℕ) → Hinges w (erring w.slot.dat n) (data_error w.slot n)
unfolding data_error
error_hinges w n = go w.slot.dat
  where
    go : (d : Dat) → Hinges w (erring d n) (data_error_at d w.slot n)
    go dat.Free = (w.slot, refl, λ e. same)
    go (dat.Busy answered) = (_, refl, λ e. tells dat.Stuck (data_event n) refl)
    go (dat.Runs t) = (_, refl, λ e. tells (dat.Halted t.way) (data_event n) refl)
    go dat.Stuck = (w.slot, refl, λ e. same)
    go (dat.Halted way) = (w.slot, refl, λ e. same)

-- "Response, to a waiting command: 0 good", or an error that fits
pub response_hinges : (w : World) (n : ℕ) (words : Reply) → Hinges w (responding w.slot.command n) (respond_of w.slot n words)
unfolding respond_of
response_hinges w n words = go w.slot.command
  where
    join : (a b : Bool) (x y : Slot) (z : Stepped)
        → cond a (stepped_as (Ok 0) x) (cond b (stepped_as (Ok 0) y) z) ≡ cond (a || b) (stepped_as (Ok 0) (cond a x y)) z
    join true b x y z = refl
    join false b x y z = refl

    go : (c : Command) → Hinges w (responding c n) (respond_to c w.slot n words)
    go command.Idle = (w.slot, refl, λ e. same)
    go (command.Waits v) =
        (_, join (eqb n 0) (fits_error v n) (good_of w.slot v words) (failed_of w.slot n) _, λ e. by_test (Effect w) (eqb n 0) (λ a. replies v words) (λ a. errs n))
    go command.Halted = (w.slot, refl, λ e. same)
