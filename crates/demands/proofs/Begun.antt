-- The world right after an accepted data command: its transfer runs as just issued, its command waits, its block is of 1 to 512 bytes. Assumes nothing.
use Prim.Native.Nat.{ℕ, ◌≤◌, ◌<◌}
use native.Mathlib.Omega.{arith}
use mathlib.Core.Path.{◌≡◌, refl, sym, subst, ◌∙◌}
use mathlib.Core.Logic.Iff
use mathlib.Core.Logic.{◌≢◌}
use mathlib.Core.Bool.{true, false, not, ◌&&◌, or-true, true≢false}
use lib.Dec.{ltb}
use borrow.Author.Tests.{ltb-false}
use Rattle.std.specs.Prelude.{Option, Some, None}
use Rattle.terms.specs.Answers.{Answer, number_of}
use Rattle.registers.specs.Block.{bus_power, bus_clock}
use Rattle.registers.specs.Place.{issues, target_of}
use Rattle.registers.specs.Word.{in_use}
use Rattle.registers.specs.declared.block.Registers.{Registers}
use Rattle.registers.specs.declared.place.Edit.{Edit}
use Rattle.registers.specs.declared.place.Target.{Target}
use Rattle.registers.proofs.Tests.{fails}
use Rattle.engine.specs.Transfer.{issued}
use Rattle.engine.specs.declared.transfer.Dat.{Dat}
use Rattle.controller.specs.Access.{write_at}
use Rattle.controller.specs.Command.{request_of, is_abort, uses_dat, not_carried, blocks_asked, way_asked, dat_issued, would_be, judged, command_step}
use Rattle.controller.specs.Slot.{Stepped, use_of, occupied}
use Rattle.controller.specs.Steps.{World, plain, step_of}
use Rattle.controller.specs.declared.command.Request.{Request}
use Rattle.controller.specs.declared.slot.Command.TheVariants.{Waits}
use Rattle.controller.specs.declared.slot.Waiting.{Waiting}
use Rattle.controller.proofs.Causes.{by_test}
use Rattle.demands.specs.Issued.{asked, Issued, blocks_of, size_of, way_of}

-- a data command has just issued
pub record Begun (w : World) : Type 0 where
  -- "Issuing sets ... the DAT side for data"
  pub dat : w.slot.dat ≡ issued (way_of w) (asked w).multi (size_of w) (blocks_of w)
  -- its response is awaited
  pub waits : (v : Waiting) × (w.slot.command ≡ Waits v)
  -- "block size 0 or over 512" is not carried
  pub positive : 0 < size_of w
  pub small : size_of w ≤ 512

-- ---- what a command that is carried asks for

module _ (q : Request) (d : q.«data» ≡ true) (c : not_carried q ≡ false) where
  uncarried : not_carried q ≡ true → ⊥
  uncarried t = true≢false (sym t ∙ c)

  -- "Abort with data" is not carried
  asked_dat : (old : Dat) → dat_issued q old ≡ issued (way_asked q) q.multi q.size (blocks_asked q)
  asked_dat old = rw ((fails (is_abort q) Iff.rfl).1 (λ a. uncarried (simp (d, a, or-true))), d)

  -- nor is block size 0
  asked_positive : 0 < q.size
  asked_positive = let n : q.size ≢ 0 = λ z. uncarried (simp (d, z, or-true)) in omega arith

  -- or one over 512
  asked_small : q.size ≤ 512
  asked_small = ltb-false 512 q.size ((fails (ltb 512 q.size) Iff.rfl).1 (λ l. uncarried (simp (d, l, or-true))))

-- ---- and the step that issues it

module _ (w : World) where
  -- a step that is done and asks for data
  abbrev P : Stepped → Type 0
  P x = number_of x.answer ≡ 0 → (request_of x.slot.registers).«data» ≡ true → Begun (plain w x).world

  commanded : (e : Edit) → P (command_step w.slot e)
  unfolding command_step
  commanded e =
      by_test Q (occupied w.slot.command) (λ o z. absurd (omega arith))
      (λ o. by_test Q (uses_dat q && not (is_abort q) && in_use (use_of w.slot.dat)) (λ x z. absurd (omega arith))
      (λ x. by_test Q (bus_clock r && bus_power r)
      (λ p. by_test Q (not_carried q) (λ n z. absurd (omega arith))
      (λ n z d. record { dat = asked_dat q d n w.slot.dat; waits = (_, refl); positive = asked_positive q d n; small = asked_small q d n }))
      (λ p z. absurd (omega arith))))
    where
      r : Registers
      r = would_be w.slot e

      q : Request
      q = request_of r

      Q : Answer → Type 0
      Q a = P (judged w.slot r q a)

  aimed : (t : Option Target) (offset width : ℕ) → issues offset width ≡ true → P (write_at t w.slot offset width)
  aimed None offset width i = λ z. absurd (omega arith)
  aimed (Some t) offset width i = rw i (commanded t.edit)

-- "A data command that has just issued, for B blocks"
pub begun : (w : World) → Issued w → Begun w
unfolding step_of
begun w i =
    subst (λ (v : World). (asked v).«data» ≡ true → Begun v) i.leads
    (aimed i.before (target_of i.offset i.width i.value) i.offset i.width i.issuing i.accepted) i.with_data
