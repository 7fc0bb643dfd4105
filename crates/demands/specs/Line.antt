-- The interrupt line: an ending raises its bit, and the bit holds the line up, over every run whatever, until it is cleared, reset or loses an
-- enable. Assumes nothing: these are definitions.
use Rattle.std.specs.Prelude.{ℕ, ◌≡◌, ◌≢◌, List, [], ◌∷◌, Bool, true, false, not, ◌&&◌, ◌||◌, eqb, Option, Some, None}
use Rattle.table.specs.declared.survey.Kind.{Kind}
use Rattle.table.specs.declared.survey.Kind.TheVariants.{Well, Error, Limit}
use Rattle.registers.specs.Bits.{bit_of}
use Rattle.registers.specs.Place.{target_of}
use Rattle.registers.specs.Interrupt.{event_bit, event_set}
use Rattle.registers.specs.Reset.{reset_bits}
use Rattle.registers.specs.declared.interrupt.Event.{Event}
use Rattle.registers.specs.declared.interrupt.Event.TheVariants.{CommandComplete, TransferComplete, AdmaError}
use Rattle.registers.specs.declared.place.Edit.{Edit}
use Rattle.registers.specs.declared.place.Taker.{Taker}
use Rattle.registers.specs.declared.place.Taker.TheVariants.{System, Block, Argument, Order, Host, Clock, Status, Enabled, Signal, Force, Low, High}
use Rattle.registers.specs.declared.place.Word.{Word}
use Rattle.registers.specs.declared.place.Word.TheVariants.{Takes, Tells}
use Rattle.registers.specs.declared.place.Target.{Target}
use Rattle.controller.specs.Slot.{line_now}
use Rattle.controller.specs.Steps.{Step, read, write, card_in, card_out, response, block_given, block_taken, busy_over_step, data_error_step, level, turn, World, step_of}
use Rattle.controller.specs.declared.slot.Slot.{Slot}
use Rattle.demands.specs.Run.{reached, running}
use Rattle.demands.specs.Issued.{trace_at}

-- ---- the bit of an event, in 030h or 032h, in its status enable and in its signal enable

abbrev pub stands : Event → Slot → Bool
stands event s = bit_of s.registers.interrupts.status (event_bit event)

abbrev pub enabled : Event → Slot → Bool
enabled event s = bit_of s.registers.interrupts.enabled (event_bit event)

abbrev pub signalled : Event → Slot → Bool
signalled event s = bit_of s.registers.interrupts.signal (event_bit event)

-- ---- "until that bit is cleared, reset or loses an enable"

-- "cleared": a 1 is written to it. "reset": everything by bit 0 of 02Fh, Command Complete by bit 1, Transfer Complete by bit 2. "loses an enable": a
-- 0 is written to its status enable
abbrev pub taker_drops : Taker → Edit → ℕ → Bool
taker_drops System e k = false
taker_drops Block e k = false
taker_drops Argument e k = false
taker_drops Order e k = false
taker_drops Host e k = false
taker_drops Clock e k =
    let which = reset_bits e in
    which.all || which.command && eqb k (event_bit CommandComplete) || which.«data» && eqb k (event_bit TransferComplete)
taker_drops Status e k = bit_of e.bits k
taker_drops Enabled e k = bit_of e.lanes k && not (bit_of e.bits k)
taker_drops Signal e k = false
taker_drops Force e k = false
taker_drops Low e k = false
taker_drops High e k = false

-- "loses an enable": a 0 is written to its signal enable, or all is reset
abbrev pub taker_mutes : Taker → Edit → ℕ → Bool
taker_mutes System e k = false
taker_mutes Block e k = false
taker_mutes Argument e k = false
taker_mutes Order e k = false
taker_mutes Host e k = false
taker_mutes Clock e k = (reset_bits e).all
taker_mutes Status e k = false
taker_mutes Enabled e k = false
taker_mutes Signal e k = bit_of e.lanes k && not (bit_of e.bits k)
taker_mutes Force e k = false
taker_mutes Low e k = false
taker_mutes High e k = false

-- a word that only tells takes nothing away
abbrev pub word_by : (Taker → Edit → ℕ → Bool) → Word → Edit → ℕ → Bool
word_by takes (Takes w) e k = takes w e k
word_by takes (Tells w) e k = false

-- a write by its target
abbrev pub aimed_by : (Taker → Edit → ℕ → Bool) → Option Target → ℕ → Bool
aimed_by takes None k = false
aimed_by takes (Some t) k = word_by takes t.word t.edit k

-- only a write can
abbrev pub writes_so : (Taker → Edit → ℕ → Bool) → Step → ℕ → Bool
writes_so takes (read offset width) k = false
writes_so takes (write offset width value) k = aimed_by takes (target_of offset width value) k
writes_so takes card_in k = false
writes_so takes card_out k = false
writes_so takes (response result words) k = false
writes_so takes (block_given block) k = false
writes_so takes (block_taken room) k = false
writes_so takes busy_over_step k = false
writes_so takes (data_error_step number) k = false
writes_so takes (level up) k = false
writes_so takes turn k = false

-- does a step take the bit of an event down?
abbrev pub drops : Step → Event → Bool
drops e event = writes_so taker_drops e (event_bit event)

-- does it take its signal enable away?
abbrev pub mutes : Step → Event → Bool
mutes e event = writes_so taker_mutes e (event_bit event)

-- ---- "over every run whatever": any entry, any access, and before each step any buffer and any memory

pub record Visit : Type 0 where
  pub step : Step
  pub buffer : List ℕ
  pub memory : List ℕ

-- the slot after a visit
abbrev pub visited : Slot → Visit → Slot
visited s v = (step_of (record { slot = s; buffer = v.buffer; memory = v.memory }) v.step).world.slot

unfoldable pub after_visits : Slot → List Visit → Slot
after_visits s [] = s
after_visits s (v ∷ vs) = after_visits (visited s v) vs

-- no step of a run drops the bit
abbrev pub Spared : Event → List Visit → Type 0
Spared event [] = Unit
Spared event (v ∷ vs) = (drops v.step event ≡ false) × Spared event vs

-- no step of a run mutes it
abbrev pub Unmuted : Event → List Visit → Type 0
Unmuted event [] = Unit
Unmuted event (v ∷ vs) = (mutes v.step event ≡ false) × Unmuted event vs

-- what a bit that stands promises of every run from there
pub record Held (event : Event) (s : Slot) : Type 0 where
  -- it stands until it is dropped
  pub stays : (vs : List Visit) → Spared event vs → stands event (after_visits s vs) ≡ true
  -- "while signalled, the line is up"
  pub up : (vs : List Visit) → Spared event vs → signalled event (after_visits s vs) ≡ true → line_now (after_visits s vs) ≡ true
  -- "if signalled, holds the line up until that bit is cleared, reset or loses an enable"
  pub holds : (vs : List Visit) → Spared event vs → Unmuted event vs → signalled event s ≡ true → line_now (after_visits s vs) ≡ true

-- ---- the end of a transfer

-- Transfer Complete, or the ADMA error
abbrev pub end_event : Kind → Event
end_event Well = TransferComplete
end_event (Error f) = AdmaError
end_event Limit = AdmaError  -- `reaches` of `Granted` rules this out

-- what a step of a run does, while the transfer runs, to the two bits that an ending raises
pub record Told (w : World) (lines : ℕ) (es : List Step) (e : Step) : Type 0 where
  -- "An enabled ending raises its bit": in the step after which the transfer runs no longer
  pub raises : running (step_of (reached w es) e).world ≡ false
      → enabled (end_event (trace_at w lines).kind) (reached w es).slot ≡ true
      → Held (end_event (trace_at w lines).kind) (step_of (reached w es) e).world.slot
  -- and no other: a bit of the other ending that then stands stood before
  pub alone : (kind : Kind) → running (step_of (reached w es) e).world ≡ false → end_event kind ≢ end_event (trace_at w lines).kind
      → stands (end_event kind) (step_of (reached w es) e).world.slot ≡ true → stands (end_event kind) (reached w es).slot ≡ true
  -- and nothing raises it sooner
  pub sooner : (kind : Kind) → running (step_of (reached w es) e).world ≡ true
      → stands (end_event kind) (step_of (reached w es) e).world.slot ≡ true → stands (end_event kind) (reached w es).slot ≡ true

-- two bits that stand together, and 030h written with a 1 for the first alone
abbrev pub acknowledging : Event → World → Slot
acknowledging one w = (step_of w (write 0x030 4 (event_set one))).world.slot

-- "acknowledging one leaves the other and the line"
pub record KeepsOther (one other : Event) (w : World) : Type 0 where
  pub cleared : stands one (acknowledging one w) ≡ false
  pub leaves : stands other (acknowledging one w) ≡ true
  pub line : signalled other w.slot ≡ true → line_now (acknowledging one w) ≡ true
