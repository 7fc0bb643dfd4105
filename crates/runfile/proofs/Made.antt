-- What the program keeps of a step is what its definition gives: refused, the slot is the one that there was (`Kept` of the controller). Assumes nothing.
use Prim.Native.Nat.{ℕ}
use mathlib.Core.Path.{◌≡◌, refl, ap}
use mathlib.Core.List.{List}
use mathlib.Core.Logic.{◌≢◌}
use lib.Dec.{eqb}
use Rattle.std.specs.Prelude.{Ok, Err}
use Rattle.terms.specs.Answers.{Answer, number_of}
use Rattle.controller.specs.Slot.{Stepped, done_by, done_of, done_with, done_over}
use Rattle.controller.specs.Data.{taken_of, turn_of}
use Rattle.controller.specs.declared.slot.Slot.{Slot}
use Rattle.controller.proofs.Causes.{by_test}
use Rattle.controller.proofs.Kept.{row_some, Keeps, read_keeps, write_keeps, in_keeps, out_keeps, respond_keeps, level_keeps, busy_keeps, error_keeps, taken_keeps, turn_keeps}
use Rattle.runfile.specs.Run.{StepDone, made_of, plain_of, words_of, quiet_of, take_of, go_of}
use Rattle.runfile.specs.declared.file.Step.{Step}
use Rattle.runfile.specs.declared.run.RunState.{RunState}

-- the program's end of a step is the definition's
made : (r : RunState) (z : Stepped) → Keeps r.slot z → plain_of r z ≡ made_of r (done_of z)
made r z k = go z.answer k
  where
    go : (a : Answer) → (number_of a ≢ 0 → z.slot ≡ r.slot) → plain_of r (record { answer = a; slot = z.slot }) ≡ made_of r (done_by a z.slot)
    go (Ok v) k = refl
    go (Err e) k = rw (k (row_some e)) refl

-- no quiet step moves a slot that it is refused over
quiet_keeps : (s : Step) (slot : Slot) → Keeps slot (quiet_of s slot)
quiet_keeps s slot =
    let K = Keeps slot in
    by_test K (eqb s.kind 0) (λ _. write_keeps slot s.offset s.detail s.first)
    (λ _. by_test K (eqb s.kind 1) (λ _. read_keeps slot s.offset s.detail)
    (λ _. by_test K (eqb s.kind 2) (λ _. in_keeps slot)
    (λ _. by_test K (eqb s.kind 3) (λ _. out_keeps slot)
    (λ _. by_test K (eqb s.kind 4) (λ _. respond_keeps slot s.detail (words_of s))
    (λ _. by_test K (eqb s.kind 7) (λ _. busy_keeps slot)
    (λ _. by_test K (eqb s.kind 8) (λ _. error_keeps slot s.detail) (λ _. level_keeps slot (eqb s.detail 1))))))))

pub quiet_made : (r : RunState) (s : Step) → plain_of r (quiet_of s r.slot) ≡ made_of r (done_of (quiet_of s r.slot))
quiet_made r s = made r (quiet_of s r.slot) (quiet_keeps s r.slot)

pub take_made : (r : RunState) (buffer room : List ℕ) → take_of r buffer room ≡ (let t = done_with (taken_of r.slot buffer room) in (made_of r t.0, t.1))
take_made r buffer room =
    let t = taken_of r.slot buffer room in
    ap (λ (d : StepDone). (d, t.1)) (made r t.0 (taken_keeps r.slot buffer room))

pub go_made : (r : RunState) (buffer memory : List ℕ)
    → go_of r buffer memory ≡ (let t = done_over (turn_of r.slot buffer memory) in (made_of r t.0, t.1, t.2))
go_made r buffer memory =
    let t = turn_of r.slot buffer memory in
    ap (λ (d : StepDone). (d, t.1, t.2)) (made r t.0 (turn_keeps r.slot buffer memory))
