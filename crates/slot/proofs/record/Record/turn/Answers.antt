-- The record and the answer are those of the step that the controller gave; buffer and memory are its own.
use mathlib.Core.Path.{◌≡◌, ap, ◌∙◌}
use Rattle.std.proofs.Common.{List, ℕ}
use Rattle.std.specs.Prelude.{Result}
use Rattle.terms.specs.declared.Refusal.{Refusal}
use Rattle.controller.specs.Slot.{done_over}
use Rattle.controller.specs.Data.{turn_of}
use Rattle.controller.specs.declared.slot.Done.{Done}
use Rattle.slot.specs.Record.{slot_of}
use Rattle.slot.specs.Step.{Stepped, settled, spelled}
use Rattle.slot.proofs.Settled.{settled_is}
use Rattle.slot.proofs.record.Record.turn.Goals as goal

pub returns : goal.returns
returns c =
    let r = c.args.self.now in
    let z = turn_of (slot_of r) c.args.buffer.now c.args.mem.now in
    let made : (c.turn.result, c.turn.new.buffer, c.turn.new.mem) ≡ done_over z = rw c.slot.ensures at c.turn.ensures in
    let same : settled r c.turn.result ≡ spelled r z.0 =
    ap (λ (m : Result Done Refusal × List ℕ × List ℕ). settled r m.0) made ∙ settled_is r z.0 in (
      c.settle.ensures.0 ∙ ap (λ (s : Stepped). s.after) same,
      c.settle.ensures.1 ∙ ap (λ (s : Stepped). s.answer) same,
      ap (λ (m : Result Done Refusal × List ℕ × List ℕ). m.1) made,
      ap (λ (m : Result Done Refusal × List ℕ × List ℕ). m.2) made,
    )
