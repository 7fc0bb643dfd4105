-- The runs of the whole controller follow the runs of its engine, and every run of the engine is mirrored by one of the controller. Assumes nothing.
use Prim.Native.Nat.{ℕ, ◌+◌, ◌≤◌}
use native.Mathlib.Omega.{arith}
use mathlib.Core.Path.{◌≡◌, refl, sym, ◌∙◌}
use mathlib.Core.Logic.{◌≢◌, inl, inr}
use mathlib.Core.List.{List, [], ◌∷◌, ◌++◌, append-nil, append_assoc}
use mathlib.Core.Bool.{Bool, true}
use Rattle.terms.specs.Answers.{number_of}
use Rattle.std.specs.Prelude.{Ok}
use Rattle.registers.specs.Block.{with_interrupts}
use Rattle.registers.specs.declared.block.Reply.{Reply}
use Rattle.registers.specs.declared.interrupt.Interrupts.{Interrupts}
use Rattle.engine.specs.Run as engine
use Rattle.engine.proofs.Drive.{run_append}
use Rattle.controller.specs.Slot.{Stepped, stepped_as}
use Rattle.controller.specs.Access.{write_of}
use Rattle.controller.specs.Data.{busy_over_at, busy_over}
use Rattle.controller.specs.Steps.{Step, read, write, card_in, card_out, response, block_given, block_taken, busy_over_step, data_error_step, level, turn}
use Rattle.controller.specs.Steps.{World, plain, step_of}
use Rattle.controller.proofs.Causes.{by_test}
use Rattle.controller.proofs.Refused.{refused}
use Rattle.demands.specs.Run.{deeds, reached, count_turn, turns_done, passing, passed}
use Rattle.demands.specs.Granted.{Permitted, Fair, AllFair}
use Rattle.demands.proofs.Acknowledges.{write_acknowledges}
use Rattle.demands.proofs.Sides.{by_dat, never}
use Rattle.demands.proofs.Follows.{carries, Follows, tale, made, Along, step_with, event_along}

-- ---- the steps that are nothing to the engine

module _ (w : World) (v : engine.World) (f : Follows w v) where
  abbrev Stays : Stepped → Type 0
  Stays s = Follows (plain w s).world v

  -- the card, its level and the interrupts
  still : (card up : Bool) (i : Interrupts)
      → Stays
      (stepped_as (Ok 0)
      (record { registers = with_interrupts w.slot.registers i; card = card; level = up; command = w.slot.command; dat = w.slot.dat }))
  still card up i = made _ _ f.dat f.table f.buffer f.memory (tale f)

  -- no busy is there to be over
  over_stays : Stays (busy_over w.slot)
  unfolding busy_over
  over_stays =
      by_dat (λ d. carries d ≡ true → Stays (busy_over_at d w.slot)) (λ k. f) (λ a. never) (λ k. f) (λ way k. f) (λ t k. f) w.slot.dat (tale f).3

  -- "the driver writes only the interrupt status registers"
  write_stays : (offset width value : ℕ) → 0x030 ≤ offset → offset + width ≤ 0x034 → Stays (write_of w.slot offset width value)
  write_stays offset width value low high =
      write_acknowledges (λ (s : Stepped). Stays s) w.slot offset width value low high (λ a. f) (λ bits. still w.slot.card w.slot.level _)

-- ---- every step

-- a response whose words are all 0
abbrev zeros : Reply
zeros = record { first = 0; second = 0; third = 0; fourth = 0 }

-- the engine's events that a step of the controller is
abbrev Some : World → Step → engine.World → Type 0
Some w e v = (events : List engine.Event) × Along w e v (engine.run v events)

stepped : (w : World) (v : engine.World) (e : Step) → Follows w v → Fair (record { step = e; result = step_of w e }) → Some w e v
unfolding step_of engine.run
stepped w v e f = go e
  where
    none : {x : World} → Follows x v → (events : List engine.Event)
        × (Follows x (engine.run v events) × ((n : ℕ) → n + (engine.run v events).turns ≡ n + v.turns) × ((engine.run v events).passed ≡ v.passed ++ []))
    none g = ([], (g, λ n. refl, sym (append-nil v.passed)))

    kept : (e : Step) → number_of (step_of w e).answer ≢ 0 → Follows (step_of w e).world v
    kept e n = rw (refused w e n).1 f

    one : (reply : Reply) (event : engine.Event) → Some w (step_with reply event) v
    one reply event = (event ∷ [], event_along reply w v event f)

    go : (e : Step) → Fair (record { step = e; result = step_of w e }) → Some w e v
    go (read offset width) h = none f
    go (write offset width value) (inl n) = none (kept (write offset width value) n)
    go (write offset width value) (inr (low, high)) = none (write_stays w v f offset width value low high)
    go card_in h = none (by_test (Stays w v f) w.slot.card (λ c. f) (λ c. still w v f true w.slot.level _))
    go card_out (inl n) = none (kept card_out n)
    go card_out (inr b) = absurd b
    go (response result reply) (inl n) = none (kept (response result reply) n)
    go (response result reply) (inr z) = rw z (one reply engine.reply)
    go (block_given block) h = one zeros (engine.given block)
    go (block_taken room) h = one zeros (engine.taken room)
    go busy_over_step h = none (over_stays w v f)
    go (data_error_step number) (inl n) = none (kept (data_error_step number) n)
    go (data_error_step number) (inr b) = absurd b
    go (level up) h = none (by_test (Stays w v f) w.slot.card (λ c. still w v f w.slot.card up w.slot.registers.interrupts) (λ c. f))
    go turn h = one zeros engine.go

-- the engine's events that a step of the controller is, at most one
pub one_step : (w : World) (v : engine.World) (e : Step) → Follows w v → Fair (record { step = e; result = step_of w e })
    → (events : List engine.Event) × Follows (step_of w e).world (engine.run v events)
    × ((engine.run v events).turns ≡ count_turn e (step_of w e).answer v.turns)
    × ((engine.run v events).passed ≡ v.passed ++ passing e (step_of w e))
one_step w v e f h = let (events, (g, t, p)) = stepped w v e f h in (events, g, omega (arith, t v.turns), p)

-- a run of the controller follows a run of the engine
pub follows : (w : World) (v : engine.World) (es : List Step) → Follows w v → AllFair (deeds w es)
    → (events : List engine.Event) × Follows (reached w es) (engine.run v events)
    × ((engine.run v events).turns ≡ turns_done (deeds w es) + v.turns)
    × ((engine.run v events).passed ≡ v.passed ++ passed (deeds w es))
unfolding deeds reached turns_done passed engine.run
follows w v [] f h = ([], f, omega arith, sym (append-nil v.passed))
follows w v (e ∷ es) f (h, hs) =
    let (events, (g, t, p)) = stepped w v e f h in
    let (more, g', t', p') = follows (step_of w e).world (engine.run v events) es g hs in
    let a = run_append events more v in
    (events ++ more, rw a g', rw a (t' ∙ t (turns_done (deeds (step_of w e).world es))), rw (a, p', p, append_assoc))

-- ---- the other way

-- an event of the engine as a step of the controller
abbrev pub step_for : engine.Event → Step
step_for event = step_with zeros event

-- the driver and the card may do as the engine's run says
pub mirrors : (w : World) (v : engine.World) (events : List engine.Event) → Follows w v
    → (es : List Step) × AllFair (deeds w es) × Follows (reached w es) (engine.run v events)
unfolding deeds reached engine.run
mirrors w v [] f = ([], tt, f)
mirrors w v (event ∷ events) f =
    let (es, h, g) = mirrors (step_of w (step_for event)).world (engine.next v event) events (event_along zeros w v event f).0 in
    (step_for event ∷ es, (inr (permitted event), h), g)
  where
    permitted : (event : engine.Event) → Permitted (step_for event)
    permitted engine.reply = refl
    permitted engine.go = tt
    permitted (engine.given block) = tt
    permitted (engine.taken room) = tt
