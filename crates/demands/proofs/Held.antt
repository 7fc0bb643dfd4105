-- A status bit falls only in a step that drops it, and holds the line up while it is signalled: one step, then every run. Assumes nothing.
use Prim.Native.Nat.{ℕ}
use mathlib.Core.Path.{◌≡◌, refl, sym, ◌∙◌}
use mathlib.Core.List.{List, [], ◌∷◌}
use mathlib.Core.Bool.{Bool, true, false, not, ◌&&◌, ◌||◌, or-false, true≢false}
use lib.Bits.{bit_and}
use lib.Dec.{eqb, ltb}
use borrow.Author.Tests.{not-false}
use Rattle.std.specs.Prelude.{Option, Some, None}
use Rattle.terms.specs.Answers.{number_of}
use Rattle.registers.specs.Bits.{bit_of, without}
use Rattle.registers.specs.Place.{target_of, issues}
use Rattle.registers.specs.Word.{inhibits}
use Rattle.registers.specs.Interrupt.{event_bit, event_set, raised, acknowledged, carried, choice, enabling, signalling, forcible, shown_status, counted}
use Rattle.registers.specs.Block.{bus_power, bus_clock}
use Rattle.registers.specs.Reset.{reset_bits, reset_command, reset_with}
use Rattle.registers.specs.Access.{take_from, take_of}
use Rattle.registers.specs.declared.interrupt.Event.{Event}
use Rattle.registers.specs.declared.interrupt.Event.TheVariants.{CommandComplete, TransferComplete, DmaInterrupt, CardInsertion, CardRemoval, AdmaError}
use Rattle.registers.specs.declared.interrupt.Interrupts.{Interrupts}
use Rattle.registers.specs.declared.place.Edit.{Edit}
use Rattle.registers.specs.declared.place.Taker.{Taker}
use Rattle.registers.specs.declared.place.Taker.TheVariants.{System, Block, Argument, Order, Host, Clock, Status, Enabled, Signal, Force, Low, High}
use Rattle.registers.specs.declared.place.Word.{Word}
use Rattle.registers.specs.declared.place.Word.TheVariants.{Takes, Tells}
use Rattle.registers.specs.declared.place.Target.{Target}
use Rattle.registers.specs.declared.reset.Resets.{Resets}
use Rattle.registers.specs.declared.word.Facts.{Facts}
use Rattle.registers.specs.declared.block.Registers.{Registers}
use Rattle.registers.specs.declared.block.Reply.{Reply}
use Rattle.registers.proofs.Tests.{law}
use Rattle.registers.proofs.Sets.{bit_or_lem}
use Rattle.registers.proofs.Standing.{after_raise, after_choice, after_enable, acknowledge_keeps, line_up}
use Rattle.registers.proofs.Events.{event_one, raisable, event_raisable}
use Rattle.registers.proofs.Derived.{none_within}
use Rattle.engine.specs.Turn as engine
use Rattle.engine.specs.Block as block
use Rattle.engine.specs.declared.transfer.Dat.{Dat}
use Rattle.engine.specs.declared.transfer.Outcome.{Outcome}
use Rattle.engine.specs.declared.transfer.Outcome.TheVariants.{Goes, Completes, Fails}
use Rattle.engine.specs.Block.{Passed}
use Rattle.controller.specs.Slot.{Stepped, use_of, line_now, raised_at}
use Rattle.controller.specs.Command.{request_of, judge_of, would_be, command_step}
use Rattle.controller.specs.Access.{write_at}
use Rattle.controller.specs.Card.{fits_error, error_event, respond_to, respond_of}
use Rattle.controller.specs.Data.{counts_of, outcome_at, passed_as, data_event, busy_over_at, busy_over, data_error_at, data_error}
use Rattle.controller.specs.Steps.{Step, read, write, card_in, card_out, response, block_given, block_taken, busy_over_step, data_error_step, level, turn, World, step_of}
use Rattle.controller.specs.declared.slot.Command.{Command}
use Rattle.controller.specs.declared.slot.Command.TheVariants as command
use Rattle.controller.specs.declared.slot.Slot.{Slot}
use Rattle.controller.proofs.Causes.{by_test}
use Rattle.demands.proofs.Sides.{by_dat}
use Rattle.demands.specs.Line.{stands, signalled, taker_drops, taker_mutes, word_by, aimed_by, writes_so, drops, mutes, Visit, visited, after_visits, Spared, Unmuted, Held}

-- ---- one step, for whatever is said of the interrupts

-- it outlasts bits raised, and every write that does not take it away, by the four takers that do more to the interrupts than raise bits
record Lasts (takes : Taker → Edit → ℕ → Bool) (k : ℕ) (P : Interrupts → Type 0) : Type 0 where
  raise : (bits : ℕ) (i : Interrupts) → P i → P (raised bits i)
  reset : (e : Edit) (r : Registers) → takes Clock e k ≡ false → P r.interrupts → P (reset_with (reset_bits e) r).interrupts
  acknowledge : (e : Edit) (i : Interrupts) → takes Status e k ≡ false → P i → P (acknowledged e.bits i)
  enable : (e : Edit) (i : Interrupts) → takes Enabled e k ≡ false → P i → P (enabling e i)
  signal : (e : Edit) (i : Interrupts) → takes Signal e k ≡ false → P i → P (signalling e i)

module _ (takes : Taker → Edit → ℕ → Bool) (k : ℕ) (P : Interrupts → Type 0) (lasts : Lasts takes k P) where
  abbrev Keeps : Slot → Type 0
  Keeps s = P s.registers.interrupts

  abbrev Leaves : Stepped → Type 0
  Leaves x = Keeps x.slot

  raise_keeps : (event : Event) (r : Registers) → P r.interrupts → P (raised_at event r).interrupts
  raise_keeps event r h = lasts.raise (event_set event) r.interrupts h

  outcome_keeps : (o : Outcome) (r : Registers) → P r.interrupts → P (outcome_at o r).interrupts
  outcome_keeps Goes r h = h
  outcome_keeps Completes r h = raise_keeps TransferComplete r h
  outcome_keeps (Fails state) r h = raise_keeps AdmaError r h

  passed_keeps : (s : Slot) (p : Passed) → Keeps s → Leaves (passed_as s p)
  passed_keeps s p h =
      by_test Leaves (eqb (number_of p.answer) 0)
      (λ e. outcome_keeps p.outcome _ (by_test (λ (r : Registers). P r.interrupts) (counts_of s.dat) (λ c. h) (λ c. h))) (λ e. h)

  busy_keeps : (s : Slot) (d : Dat) → Keeps s → Leaves (busy_over_at d s)
  busy_keeps s d h =
      by_dat (λ d. Leaves (busy_over_at d s)) h
      (λ a. by_test Leaves a (λ e. raise_keeps TransferComplete s.registers h) (λ e. h)) h (λ way. h) (λ t. h) d

  error_keeps : (s : Slot) (n : ℕ) (d : Dat) → Keeps s → Leaves (data_error_at d s n)
  error_keeps s n d h =
      by_dat (λ d. Leaves (data_error_at d s n)) h
      (λ a. by_test Leaves (a && eqb n 0) (λ e. raise_keeps (data_event n) s.registers h) (λ e. h)) h (λ way. h)
      (λ t. by_test Leaves (t.answered && ltb n 3) (λ e. raise_keeps (data_event n) s.registers h) (λ e. h)) d

  response_keeps : (s : Slot) (n : ℕ) (words : Reply) (c : Command) → Keeps s → Leaves (respond_to c s n words)
  response_keeps s n words command.Idle h = h
  response_keeps s n words (command.Waits v) h =
      by_test Leaves (eqb n 0) (λ e. raise_keeps CommandComplete s.registers h)
      (λ e. by_test Leaves (fits_error v n) (λ f. raise_keeps (error_event n) s.registers h) (λ f. h))
  response_keeps s n words command.Halted h = h

  take_keeps : (t : Taker) (e : Edit) (inhibited card : Bool) (r : Registers) → takes t e k ≡ false → P r.interrupts
      → P (take_from t e inhibited card r).interrupts
  unfolding take_from
  take_keeps System e inhibited card r d h = h
  take_keeps Block e inhibited card r d h = h
  take_keeps Argument e inhibited card r d h = h
  take_keeps Order e inhibited card r d h = h
  take_keeps Host e inhibited card r d h = h
  take_keeps Clock e inhibited card r d h = lasts.reset e _ d h
  take_keeps Status e inhibited card r d h = lasts.acknowledge e r.interrupts d h
  take_keeps Enabled e inhibited card r d h = lasts.enable e r.interrupts d h
  take_keeps Signal e inhibited card r d h = lasts.signal e r.interrupts d h
  take_keeps Force e inhibited card r d h = lasts.raise (bit_and e.bits forcible) r.interrupts h
  take_keeps Low e inhibited card r d h = h
  take_keeps High e inhibited card r d h = h

  -- a command takes nothing, done or refused
  command_keeps : (s : Slot) (e : Edit) → Keeps s → Leaves (command_step s e)
  unfolding command_step take_of take_from
  command_keeps s e h =
      let r = would_be s e in
      by_test Leaves (eqb (number_of (judge_of s (request_of r) (bus_clock r && bus_power r))) 0) (λ d. h) (λ d. h)

  word_keeps : (w : Word) (e : Edit) (f : Facts) (r : Registers) → word_by takes w e k ≡ false → P r.interrupts → P (take_of w e f r).interrupts
  unfolding take_of
  word_keeps (Takes t) e f r d h = take_keeps t e _ _ r d h
  word_keeps (Tells t) e f r d h = h

  write_keeps : (s : Slot) (offset width : ℕ) (t : Option Target) → aimed_by takes t k ≡ false → Keeps s → Leaves (write_at t s offset width)
  write_keeps s offset width None d h = h
  write_keeps s offset width (Some t) d h =
      by_test Leaves (issues offset width) (λ i. command_keeps s t.edit h)
      (λ i. by_test Leaves (inhibits (use_of s.dat) offset width) (λ g. h) (λ g. word_keeps t.word t.edit _ s.registers d h))

  step_keeps : (w : World) (e : Step) → writes_so takes e k ≡ false → Keeps w.slot → Keeps (step_of w e).world.slot
  unfolding step_of respond_of busy_over data_error
  step_keeps w (read offset width) d h = h
  step_keeps w (write offset width value) d h = write_keeps w.slot offset width (target_of offset width value) d h
  step_keeps w card_in d h = by_test Leaves w.slot.card (λ c. h) (λ c. raise_keeps CardInsertion w.slot.registers h)
  step_keeps w card_out d h = by_test Leaves w.slot.card (λ c. raise_keeps CardRemoval w.slot.registers h) (λ c. h)
  step_keeps w (response n words) d h = response_keeps w.slot n words w.slot.command h
  step_keeps w (block_given bytes) d h = passed_keeps w.slot (block.given_of w.slot.dat w.buffer bytes).0 h
  step_keeps w (block_taken room) d h = passed_keeps w.slot (block.taken_of w.slot.dat w.buffer room).0 h
  step_keeps w busy_over_step d h = busy_keeps w.slot w.slot.dat h
  step_keeps w (data_error_step n) d h = error_keeps w.slot n w.slot.dat h
  step_keeps w (level up) d h = by_test Leaves w.slot.card (λ c. h) (λ c. h)
  step_keeps w turn d h =
      let t = (engine.turn_of w.slot.dat w.slot.registers.adma.low w.buffer w.memory).0 in
      outcome_keeps t.outcome _
      (by_test (λ (r : Registers). P r.interrupts) t.int (λ i. raise_keeps DmaInterrupt w.slot.registers h) (λ i. h))

-- ---- a status bit, and a signal enable

-- a carried bit of the enables falls only where a 0 is written to it
choice_keeps : (old : ℕ) (e : Edit) (k : ℕ) → bit_of carried k ≡ true → (bit_of e.lanes k && not (bit_of e.bits k)) ≡ false
    → bit_of old k ≡ true → bit_of (choice old e) k ≡ true
choice_keeps old e k c d h = after_choice old e k ∙ rw (h, c) (go (bit_of e.lanes k) (bit_of e.bits k) d)
  where
    go : (lane bit : Bool) → (lane && not bit) ≡ false → (not lane || (bit && true)) ≡ true
    go = law 2 _ _ _ refl

-- so a status bit stays with an enable that is not written 0
enable_stands : (e : Edit) (i : Interrupts) (k : ℕ) → bit_of carried k ≡ true → (bit_of e.lanes k && not (bit_of e.bits k)) ≡ false
    → bit_of i.status k ≡ true → bit_of (enabling e i).status k ≡ true
enable_stands e i k c d h = after_enable e i k ∙ rw h (go (bit_of i.enabled k) refl)
  where
    go : (on : Bool) → bit_of i.enabled k ≡ on → not (on && not (bit_of (choice i.enabled e) k)) ≡ true
    go true on = rw (choice_keeps i.enabled e k c d on)
    go false on = refl

-- a reset of one side leaves the signal enables
reset_signals : (which : Resets) (r : Registers) (k : ℕ) → which.all ≡ false → bit_of r.interrupts.signal k ≡ true
    → bit_of (reset_with which r).interrupts.signal k ≡ true
unfolding reset_with
reset_signals which r k d h =
    let P : Registers → Type 0 = λ x. bit_of x.interrupts.signal k ≡ true in
    rw d (by_test P which.command (λ c. by_test P which.«data» (λ t. h) (λ t. h)) (λ c. by_test P which.«data» (λ t. h) (λ t. h)))

-- it clears one status bit, and no other
clear_stands : (event : Event) (i : Interrupts) (k : ℕ) → eqb k (event_bit event) ≡ false → bit_of i.status k ≡ true
    → bit_of (acknowledged (event_set event) i).status k ≡ true
clear_stands event i k d h = acknowledge_keeps (event_set event) i k (event_one event k ∙ d) ∙ h

-- neither of two tests holds
neither : (a b : Bool) → (a || b) ≡ false → (a ≡ false) × (b ≡ false)
neither true b d = absurd (true≢false d)
neither false b d = (refl, d)

-- so every bit stays that a reset does not name
reset_stands : (which : Resets) (r : Registers) (k : ℕ)
    → (which.all || which.command && eqb k (event_bit CommandComplete) || which.«data» && eqb k (event_bit TransferComplete)) ≡ false
    → bit_of r.interrupts.status k ≡ true → bit_of (reset_with which r).interrupts.status k ≡ true
unfolding reset_with
reset_stands which r k d h = go which.all which.command which.«data» d
  where
    command : eqb k (event_bit CommandComplete) ≡ false → bit_of (reset_command r).interrupts.status k ≡ true
    command c = clear_stands CommandComplete r.interrupts k c h

    go : (a c t : Bool) → (a || c && eqb k (event_bit CommandComplete) || t && eqb k (event_bit TransferComplete)) ≡ false
        → bit_of (reset_with (record { all = a; command = c; «data» = t }) r).interrupts.status k ≡ true
    go true c t d = absurd (true≢false d)
    go false true true d =
        let (c, t) = neither _ _ d in
        clear_stands TransferComplete (reset_command r).interrupts k t (command c)
    go false true false d = command (sym (or-false _) ∙ d)
    go false false true d = clear_stands TransferComplete r.interrupts k d h
    go false false false d = h

-- the bits of the events, within a mask that holds them all
event_within : (mask : ℕ) → without raisable mask ≡ 0 → (event : Event) → bit_of mask (event_bit event) ≡ true
event_within mask z event = not-false _ (rw (event_raisable event) at (none_within raisable mask z (event_bit event)))

-- "034h and 038h bits 8-0; 036h and 03Ah bits 9-0" hold them
event_carried : (event : Event) → bit_of carried (event_bit event) ≡ true
unfolding without
event_carried = event_within carried refl

-- a bit that stands is taken down only by a step that drops it
pub stays_one : (w : World) (e : Step) (event : Event) → drops e event ≡ false → stands event w.slot ≡ true
    → stands event (step_of w e).world.slot ≡ true
stays_one w e event =
    let k = event_bit event in
    step_keeps taker_drops k (λ i. bit_of i.status k ≡ true)
    (record {
      raise = λ bits i h. after_raise bits i k ∙ rw h;
      reset = λ e r. reset_stands (reset_bits e) r k;
      acknowledge = λ e i d h. acknowledge_keeps e.bits i k d ∙ h;
      enable = λ e i. enable_stands e i k (event_carried event);
      signal = λ e i d h. h;
    }) w e

-- a signal enable is taken away only by a step that mutes it
pub unmuted_one : (w : World) (e : Step) (event : Event) → mutes e event ≡ false → signalled event w.slot ≡ true
    → signalled event (step_of w e).world.slot ≡ true
unmuted_one w e event =
    let k = event_bit event in
    step_keeps taker_mutes k (λ i. bit_of i.signal k ≡ true)
    (record {
      raise = λ bits i h. h;
      reset = λ e r. reset_signals (reset_bits e) r k;
      acknowledge = λ e i d h. h;
      enable = λ e i d h. h;
      signal = λ e i. choice_keeps i.signal e k (event_carried event);
    }) w e

-- ---- every run

-- "while signalled, the line is up"
pub line_held : (event : Event) (s : Slot) → stands event s ≡ true → signalled event s ≡ true → line_now s ≡ true
unfolding without shown_status
line_held event s h e =
    let i = s.registers.interrupts in
    line_up s.level i (event_bit event) (event_within counted refl event, rw (bit_or_lem, bit_or_lem, h), e)

-- it stands until it is dropped
run_stays : (event : Event) (s : Slot) (vs : List Visit) → Spared event vs → stands event s ≡ true → stands event (after_visits s vs) ≡ true
unfolding after_visits
run_stays event s [] n h = h
run_stays event s (v ∷ vs) (d, n) h = run_stays event (visited s v) vs n (stays_one _ v.step event d h)

-- and is signalled until it is muted
run_signals : (event : Event) (s : Slot) (vs : List Visit) → Unmuted event vs → signalled event s ≡ true → signalled event (after_visits s vs) ≡ true
unfolding after_visits
run_signals event s [] n h = h
run_signals event s (v ∷ vs) (d, n) h = run_signals event (visited s v) vs n (unmuted_one _ v.step event d h)

-- "if signalled, holds the line up until that bit is cleared, reset or loses an enable"
pub held : (event : Event) (s : Slot) → stands event s ≡ true → Held event s
held event s h =
    record {
      stays = λ vs n. run_stays event s vs n h;
      up = λ vs n e. line_held event (after_visits s vs) (run_stays event s vs n h) e;
      holds = λ vs n m e. line_held event (after_visits s vs) (run_stays event s vs n h) (run_signals event s vs m e);
    }
