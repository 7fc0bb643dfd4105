-- "unassigned bits read 0": the registers keep to their own bits (`Clean`) from power-on through every step over lent bytes. Assumes nothing.
use mathlib.Core.Bool.{Bool}
use Rattle.registers.specs.Word.{low_bits}
use Rattle.registers.specs.Block.{with_reply, unplugged}
use Rattle.registers.proofs.Derived.{Within, kept_raise}
use Rattle.registers.proofs.Reserved as reserved
use Rattle.registers.proofs.Reserved.{Clean, setup_clean, adma_clean, interrupts_clean, clean_take, clean_unplug}
use Rattle.engine.proofs.Exactly.{stays, fetched}
use Rattle.controller.specs.Slot.{power_on, raised_at, facts_of}
use Rattle.controller.specs.Card.{error_event}
use Rattle.controller.specs.Data.{counts_of, counted_down, outcome_at, ring_at}
use Rattle.controller.specs.Steps.{Step, World, Result, step_of}
use Rattle.controller.proofs.Names.{Dat, Outcome, Goes, Completes, Fails, Slot, Registers, Reply, Event, CommandComplete, CardInsertion, CardRemoval}
use Rattle.controller.proofs.Names.{TransferComplete, DmaInterrupt, AdmaError, Order, Takes}
use Rattle.controller.proofs.Causes.{by_test}
use Rattle.controller.proofs.Masks.{fallen_within, Bytes, fetch_low}
use Rattle.controller.proofs.Effects.{Reached, Effect, same, stores, issues, comes, leaves, replies, errs, levels, tells, passes, turns}
use Rattle.controller.proofs.Given.{Given, done, kept, given}

-- "The power-on value of the whole register block": at start
pub clean_start : Clean power_on.registers
clean_start = reserved.clean_start

-- ---- single effects

raise_clean : (event : Event) (r : Registers) → Clean r → Clean (raised_at event r)
raise_clean event r h = interrupts_clean r _ h (kept_raise event r.interrupts h.interrupts)

reply_clean : (r : Registers) (a : Reply) → Clean r → Clean (with_reply r a)
reply_clean r a h = record { block = h.block; order = h.order; host = h.host; clock = h.clock; low = h.low; interrupts = h.interrupts }

outcome_clean : (o : Outcome) (r : Registers) → Clean r → Clean (outcome_at o r)
outcome_clean Goes r h = h
outcome_clean Completes r h = raise_clean TransferComplete r h
outcome_clean (Fails state) r h = raise_clean AdmaError _ (adma_clean r _ h h.low)

counted_clean : (d : Dat) (r : Registers) → Clean r → Clean (counted_down d r)
counted_clean d r h = by_test Clean (counts_of d) (λ c. setup_clean r _ h (fallen_within r.setup.block h.block) h.order) (λ c. h)

ring_clean : (int : Bool) (r : Registers) → Clean r → Clean (ring_at int r)
ring_clean int r h = by_test Clean int (λ i. raise_clean DmaInterrupt r h) (λ i. h)

module _ (w : World) (bytes : Bytes w.memory) (h : Clean w.slot.registers) where
  reached_low : {n : _} → Reached w n → Within n low_bits
  reached_low stays = h.low
  reached_low (fetched m owed) = fetch_low w.memory _ owed m bytes h.low

  effect_clean : {s : Slot} → Effect w s → Clean s.registers
  effect_clean same = h
  effect_clean (stores word e which) = clean_take word e (facts_of w.slot) w.slot.registers h
  effect_clean (issues e q) = clean_take (Takes Order) e (facts_of w.slot) w.slot.registers h
  effect_clean comes = raise_clean CardInsertion w.slot.registers h
  effect_clean leaves = raise_clean CardRemoval (unplugged w.slot.registers) (clean_unplug w.slot.registers h)
  effect_clean (replies v words) = raise_clean CommandComplete _ (reply_clean w.slot.registers _ h)
  effect_clean (errs n) = raise_clean (error_event n) w.slot.registers h
  effect_clean (levels up c) = h
  effect_clean (tells d event f) = raise_clean event w.slot.registers h
  effect_clean (passes d o f) = outcome_clean o _ (counted_clean w.slot.dat w.slot.registers h)
  effect_clean (turns t l f) = outcome_clean t.outcome _ (ring_clean t.int _ (adma_clean w.slot.registers _ h (reached_low l)))

-- "unassigned bits read 0" and stay so, whatever is done and whatever is refused
pub clean_step : (w : World) (e : Step) → Bytes w.memory → Clean w.slot.registers → Clean (step_of w e).world.slot.registers
clean_step w e b h = go (given w e)
  where
    go : {x : Result} → Given w e x → Clean x.world.slot.registers
    go (done f) = effect_clean w b h f
    go (kept c) = h
