-- Command Complete on a good response, two bits that stand side by side, and what raising an event does to each bit. Assumes nothing.
use Prim.Native.Nat.{◌^◌}
use native.Mathlib.Nat.{mul-one}
use native.Mathlib.Omega.{arith}
use mathlib.Core.Path.{◌≡◌, refl, sym, ◌∙◌, subst}
use mathlib.Core.Logic.{◌≢◌}
use mathlib.Core.Bool.{true, false, and-false, false≢true}
use borrow.Author.Tests.{eq-eqb, ne_eqb, lt-ltb}
use Rattle.std.specs.Prelude.{Option, Some}
use Rattle.terms.specs.Answers.{number_of}
use Rattle.registers.specs.Bits.{bit_of}
use Rattle.registers.specs.Place.{words, find, word_at, place_of, lanes_of, placed_of, target_of, guarded}
use Rattle.registers.specs.Word.{in_use, inhibits}
use Rattle.registers.specs.Interrupt.{event_bit, event_set}
use Rattle.registers.specs.Access.{take_from, take_of}
use Rattle.registers.specs.declared.interrupt.Event.{Event}
use Rattle.registers.specs.declared.interrupt.Event.TheVariants.{CommandComplete}
use Rattle.registers.specs.declared.block.Registers.{Registers}
use Rattle.registers.specs.declared.block.Reply.{Reply}
use Rattle.registers.specs.declared.place.Taker.TheVariants.{Status}
use Rattle.registers.specs.declared.place.Word.TheVariants.{Takes}
use Rattle.registers.specs.declared.place.Target.{Target}
use Rattle.registers.proofs.Standing.{raise_sets, raise_keeps, acknowledge_clears}
use Rattle.registers.proofs.Events.{event_one, event_apart, event_fits}
use Rattle.controller.specs.Slot.{Stepped, use_of, raised_at}
use Rattle.controller.specs.Access.{write_at}
use Rattle.controller.specs.Card.{respond_to, respond_of}
use Rattle.controller.specs.Steps.{write, response, World, step_of}
use Rattle.controller.specs.declared.slot.Command.{Command}
use Rattle.controller.specs.declared.slot.Command.TheVariants as command
use Rattle.controller.proofs.Causes.{by_test}
use Rattle.demands.specs.Line.{stands, enabled, Held, acknowledging, KeepsOther}
use Rattle.demands.proofs.Held.{stays_one, unmuted_one, line_held, held}

-- ---- raising an event

-- its own bit is in its set
own_bit : (event : Event) → bit_of (event_set event) (event_bit event) ≡ true
own_bit event = event_one event (event_bit event) ∙ eq-eqb (event_bit event) (event_bit event) refl

-- the bit of another is not
other_bit : (event other : Event) → event ≢ other → bit_of (event_set event) (event_bit other) ≡ false
other_bit event other n = event_one event (event_bit other) ∙ ne_eqb (event_bit other) (event_bit event) (λ e. n (event_apart event other (sym e)))

-- "An event sets its status bit": if it is enabled, whatever else is changed
pub raised_stands : (event : Event) (r : Registers) → bit_of r.interrupts.enabled (event_bit event) ≡ true
    → bit_of (raised_at event r).interrupts.status (event_bit event) ≡ true
raised_stands event r on = raise_sets (event_set event) r.interrupts (event_bit event) (own_bit event) on

-- and not that of another event
pub raised_others : (event other : Event) (r : Registers) → event ≢ other
    → bit_of (raised_at event r).interrupts.status (event_bit other) ≡ bit_of r.interrupts.status (event_bit other)
raised_others event other r n = raise_keeps (event_set event) r.interrupts (event_bit other) (other_bit event other n)

-- ---- the response

-- "Good: Command Complete": an accepted good response raises it if it is enabled
pub response_raises : (w : World) (words : Reply) → number_of (step_of w (response 0 words)).answer ≡ 0 → enabled CommandComplete w.slot ≡ true
    → Held CommandComplete (step_of w (response 0 words)).world.slot
unfolding step_of respond_of
response_raises w words done on = held CommandComplete _ (go w.slot.command done)
  where
    go : (c : Command) → number_of (respond_to c w.slot 0 words).answer ≡ 0 → stands CommandComplete (respond_to c w.slot 0 words).slot ≡ true
    go command.Idle d = absurd (omega (arith, d))
    go (command.Waits v) d = raised_stands CommandComplete w.slot.registers on
    go command.Halted d = absurd (omega (arith, d))

-- ---- two bits

-- 030h written with a 1 for one event alone
aim : (one : Event) → target_of 0x030 4 (event_set one) ≡ Some (record { word = Takes Status; edit = record { lanes = lanes_of 0 4; bits = event_set one } })
unfolding target_of place_of placed_of word_at words find
aim one = simp (lt-ltb (event_set one) (2 ^ 32) (event_fits one), mul-one)

-- "Writing 1 clears"
clears : (one : Event) (w : World) → stands one (acknowledging one w) ≡ false
unfolding step_of take_of take_from guarded
clears one w =
    subst (λ (t : Option Target). stands one (write_at t w.slot 0x030 4).slot ≡ false) (sym (aim one))
    (by_test (λ (x : Stepped). stands one x.slot ≡ false) (inhibits (use_of w.slot.dat) 0x030 4)
    (λ g. absurd (false≢true (sym (and-false (in_use (use_of w.slot.dat))) ∙ g)))
    (λ g. acknowledge_clears (event_set one) w.slot.registers.interrupts (event_bit one) (own_bit one)))

-- "acknowledging one leaves the other and the line"
pub keeps_other : (one other : Event) (w : World) → one ≢ other → stands other w.slot ≡ true → KeepsOther one other w
keeps_other one other w n h =
    let leaves = stays_one w (write 0x030 4 (event_set one)) other (rw (aim one) (other_bit one other n)) h in
    record {
      cleared = clears one w;
      leaves = leaves;
      line = λ e. line_held other (acknowledging one w) leaves (unmuted_one w (write 0x030 4 (event_set one)) other (rw (aim one)) e);
    }
