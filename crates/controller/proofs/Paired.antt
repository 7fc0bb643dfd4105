-- A DAT use that awaits its response stands only beside a command that waits, a level only with a card: from power-on on. Assumes nothing.
use mathlib.Core.Path.{◌≡◌, refl, sym, ◌∙◌}
use mathlib.Core.Bool.{Bool, true, false, cond, ◌||◌, false≢true}
use Rattle.engine.specs.declared.transfer.Dat.TheVariants as dat
use Rattle.controller.specs.Slot.{power_on, halted_dat, awaited_halts, answered_dat}
use Rattle.controller.specs.Access.{command_reset, dat_reset}
use Rattle.controller.specs.Steps.{Step, World, Result, step_of}
use Rattle.controller.specs.declared.slot.Command.TheVariants as command
use Rattle.controller.proofs.Names.{Dat, Command, Slot, Waiting, Resets}
use Rattle.controller.proofs.Causes.{by_test}
use Rattle.controller.proofs.Effects.{awaiting, Effect, same, stores, issues, comes, leaves, replies, errs, levels, tells, passes, turns}
use Rattle.controller.proofs.Given.{Given, done, kept, given}

-- a DAT use that awaits its response, beside the command that it waits on
abbrev pub Beside : Dat → Command → Type 0
Beside d c = awaiting d ≡ true → (v : Waiting) × (c ≡ command.Waits v)

-- "data or busy waiting on that response"; "Interrupt level: needs a card."
pub record Paired (s : Slot) : Type 0 where
  pub own : Beside s.dat s.command
  pub plugged : s.level ≡ true → s.card ≡ true

-- where nothing awaits, there is nothing to show
quiet : {t : Bool} {A : Type 0} → t ≡ false → t ≡ true → A
quiet n a = absurd (false≢true (sym n ∙ a))

-- at power-on
pub paired_start : Paired power_on
paired_start = record { own = quiet refl; plugged = quiet refl }

-- what is halted awaits no response
halted_quiet : (d : Dat) → awaiting (halted_dat d) ≡ false
halted_quiet dat.Free = refl
halted_quiet (dat.Busy answered) = refl
halted_quiet (dat.Runs t) = refl
halted_quiet dat.Stuck = refl
halted_quiet (dat.Halted way) = refl

-- "data or busy waiting on that response becomes halted"
awaited_quiet : (d : Dat) → awaiting (awaited_halts d) ≡ false
awaited_quiet dat.Free = refl
awaited_quiet (dat.Busy true) = refl
awaited_quiet (dat.Busy false) = refl
awaited_quiet (dat.Runs t) = by_test (λ (d : Dat). awaiting d ≡ false) t.answered (λ e. rw e) (λ e. refl)
awaited_quiet dat.Stuck = refl
awaited_quiet (dat.Halted way) = refl

-- a response is in
answered_quiet : (d : Dat) → awaiting (answered_dat d) ≡ false
answered_quiet dat.Free = refl
answered_quiet (dat.Busy answered) = refl
answered_quiet (dat.Runs t) = refl
answered_quiet dat.Stuck = refl
answered_quiet (dat.Halted way) = refl

-- the three resets
reset_beside : (which : Resets) (d : Dat) (c : Command) → Beside d c → Beside (dat_reset which d) (command_reset which c)
reset_beside which d c h = go which.all which.command which.«data»
  where
    go : (a b k : Bool) → Beside (cond (a || k) dat.Free (cond b (awaited_halts d) d)) (cond (a || b) command.Idle c)
    go true b k = quiet refl
    go false b true = quiet refl
    go false true false = quiet (awaited_quiet d)
    go false false false = h

module _ (w : World) (h : Paired w.slot) where
  effect_paired : {s : Slot} → Effect w s → Paired s
  effect_paired same = h
  effect_paired (stores word e which) = record { own = reset_beside which w.slot.dat w.slot.command h.own; plugged = h.plugged }
  effect_paired (issues e q) = record { own = λ a. (_, refl); plugged = h.plugged }
  effect_paired comes = record { own = h.own; plugged = λ l. refl }
  effect_paired leaves = record { own = quiet (halted_quiet w.slot.dat); plugged = quiet refl }
  effect_paired (replies v words) = record { own = quiet (answered_quiet w.slot.dat); plugged = h.plugged }
  effect_paired (errs n) = record { own = quiet (awaited_quiet w.slot.dat); plugged = h.plugged }
  effect_paired (levels up c) = record { own = h.own; plugged = λ l. c }
  effect_paired (tells d event f) = record { own = quiet f; plugged = h.plugged }
  effect_paired (passes d o f) = record { own = λ a. h.own (f a); plugged = h.plugged }
  effect_paired (turns t l f) = record { own = λ a. h.own (f a); plugged = h.plugged }

-- and every step keeps it
pub paired_step : (w : World) (e : Step) → Paired w.slot → Paired (step_of w e).world.slot
paired_step w e h = go (given w e)
  where
    go : {x : Result} → Given w e x → Paired x.world.slot
    go (done f) = effect_paired w h f
    go (kept c) = h
