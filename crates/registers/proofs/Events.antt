-- The closed list of events: each sets one bit, its own; the derived bits and those of what is left out belong to none. Assumes nothing.
use Prim.Native.Nat.{ℕ, ◌+◌, ◌^◌, ◌<◌}
use mathlib.Core.Path.{◌≡◌, refl, sym, ◌∙◌, ap}
use mathlib.Core.Logic.{◌≢◌}
use mathlib.Core.Bool.{true, false, cond, ◌&&◌, ◌||◌, false≢true}
use mathlib.Core.List.{List, [], ◌∷◌}
use lib.Dec.{eqb, ltb}
use lib.Pow.{pow-lt}
use borrow.Author.Tests.{ltb-true}
use Rattle.registers.specs.Bits.{bit_of, field, bit}
use Rattle.registers.specs.Interrupt.{event_bit, event_set, raised}
use Rattle.registers.specs.declared.interrupt.Event.{Event}
use Rattle.registers.specs.declared.interrupt.Event.TheVariants.{CommandComplete, TransferComplete, DmaInterrupt, CardInsertion, CardRemoval, CommandTimeout, CommandCrc, CommandEndBit, CommandIndex, DataTimeout, DataCrc, DataEndBit, AdmaError}
use Rattle.registers.specs.declared.interrupt.Interrupts.{Interrupts}
use Rattle.registers.proofs.Sets.{bit_power}
use Rattle.registers.proofs.Standing.{after_raise}

-- an event sets one bit, its own
pub event_one : (e : Event) (k : ℕ) → bit_of (event_set e) k ≡ eqb k (event_bit e)
event_one e k = bit_power (event_bit e) k

-- "An event sets its status bit only if its status enable is 1": that bit, and no other
pub after_event : (e : Event) (i : Interrupts) (k : ℕ)
    → bit_of (raised (event_set e) i).status k ≡ (bit_of i.status k || (eqb k (event_bit e) && bit_of i.enabled k))
after_event e i k = after_raise (event_set e) i k ∙ rw (event_one e k)

-- ---- which bits there are events for

-- 030h bits 0, 1, 3, 6 and 7; 032h bits 6-0 and 9
abbrev pub raisable : ℕ
raisable = bit 0 + bit 1 + bit 3 + field 7 6 + field 22 16 + bit 25

events : List Event
events =
    CommandComplete ∷ TransferComplete ∷ DmaInterrupt ∷ CardInsertion ∷ CardRemoval ∷ CommandTimeout ∷ CommandCrc ∷ CommandEndBit ∷ CommandIndex
    ∷ DataTimeout ∷ DataCrc ∷ DataEndBit ∷ AdmaError ∷ []

-- the event of a bit
event_at : ℕ → List Event → Event
event_at k [] = CommandComplete
event_at k (e ∷ rest) = cond (eqb k (event_bit e)) e (event_at k rest)

-- the bit is one of those, leads back to its event, and lies in the word
each : (e : Event) → (bit_of raisable (event_bit e) ≡ true) × (event_at (event_bit e) events ≡ e) × (ltb (event_bit e) 32 ≡ true)
unfolding bit_of events event_at
each CommandComplete = (refl, refl, refl)
each TransferComplete = (refl, refl, refl)
each DmaInterrupt = (refl, refl, refl)
each CardInsertion = (refl, refl, refl)
each CardRemoval = (refl, refl, refl)
each CommandTimeout = (refl, refl, refl)
each CommandCrc = (refl, refl, refl)
each CommandEndBit = (refl, refl, refl)
each CommandIndex = (refl, refl, refl)
each DataTimeout = (refl, refl, refl)
each DataCrc = (refl, refl, refl)
each DataEndBit = (refl, refl, refl)
each AdmaError = (refl, refl, refl)

-- every event has one of these bits
pub event_raisable : (e : Event) → bit_of raisable (event_bit e) ≡ true
event_raisable e = (each e).0

-- and so a set of one word
pub event_fits : (e : Event) → event_set e < 2 ^ 32
event_fits e = pow-lt (ltb-true (event_bit e) 32 (each e).2)

-- a bit that nothing raises is no event's
pub event_never : (e : Event) (k : ℕ) → bit_of raisable k ≡ false → event_bit e ≢ k
event_never e k h same = false≢true (sym h ∙ ap (bit_of raisable) (sym same) ∙ event_raisable e)

-- so neither is bit 8, "the card's level while enabled", nor "bit 15 ... 1 while any error bit stands"
pub event_not_derived : (e : Event) → (event_bit e ≢ 8) × (event_bit e ≢ 15)
unfolding bit_of
event_not_derived e = (event_never e 8 refl, event_never e 15 refl)

-- two events share no bit
pub event_apart : (e d : Event) → event_bit e ≡ event_bit d → e ≡ d
event_apart e d h = sym (each e).1 ∙ ap (λ (k : ℕ). event_at k events) h ∙ (each d).1
