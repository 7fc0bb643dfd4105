-- The cases of the DAT side: where nothing runs, and a transfer that runs. Assumes nothing.
use mathlib.Core.Path.{◌≡◌}
use mathlib.Core.Bool.{Bool, true, false, false≢true}
use Rattle.engine.specs.Run.{awaits_of}
use Rattle.engine.specs.declared.transfer.Way.{Way}
use Rattle.engine.specs.declared.transfer.Transfer.{Transfer}
use Rattle.engine.specs.declared.transfer.Dat.{Dat}
use Rattle.engine.specs.declared.transfer.Dat.TheVariants.{Free, Busy, Runs, Stuck, Halted}
use Rattle.controller.proofs.Effects.{awaiting}

-- what holds of each holds of all
pub by_dat : (P : Dat → Type 0) → P Free → ((answered : Bool) → P (Busy answered)) → P Stuck → ((way : Way) → P (Halted way))
    → ((t : Transfer) → P (Runs t)) → (d : Dat) → P d
by_dat P f b s h r Free = f
by_dat P f b s h r (Busy answered) = b answered
by_dat P f b s h r (Runs t) = r t
by_dat P f b s h r Stuck = s
by_dat P f b s h r (Halted way) = h way

-- what a test rules out
pub never : {A : Type 0} → false ≡ true → A
never e = absurd (false≢true e)

-- a transfer that awaits its response is a use that does
pub awaits_too : (d : Dat) → awaits_of d ≡ true → awaiting d ≡ true
awaits_too = by_dat (λ d. awaits_of d ≡ true → awaiting d ≡ true) never (λ a. never) never (λ way. never) (λ t e. e)
