-- A refused step has value 0 and changes nothing, whatever the entry; two outcomes of one step are equal. Assumes nothing.
use mathlib.Core.Path.{◌≡◌, refl, sym, ◌∙◌}
use mathlib.Core.Logic.{◌≢◌}
use Rattle.terms.specs.Answers.{number_of, value_of}
use Rattle.terms.proofs.Answers.{refusal_value}
use Rattle.controller.specs.Steps.{Step, World, Result, step_of, lent}
use Rattle.controller.proofs.Given.{Given, done, kept, given}

-- "All but 0 have value 0 ... and change nothing": slot, buffer, memory and room
pub refused : (w : World) (e : Step) → number_of (step_of w e).answer ≢ 0
    → (value_of (step_of w e).answer ≡ 0) × ((step_of w e).world ≡ w) × ((step_of w e).room ≡ lent e)
refused w e = go (given w e)
  where
    go : {r : Result} → Given w e r → number_of r.answer ≢ 0 → (value_of r.answer ≡ 0) × (r.world ≡ w) × (r.room ≡ lent e)
    go (done x) h = absurd (h refl)
    go (kept {a} c) h = (refusal_value a h, refl, refl)

-- "two outcomes allowed for one input are equal"
pub one_outcome : (w : World) (e : Step) (a b : Result) → a ≡ step_of w e → b ≡ step_of w e → a ≡ b
one_outcome w e a b p q = p ∙ sym q
