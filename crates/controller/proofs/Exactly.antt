-- Each number is given exactly when its row of the table says, whatever the entry and the world. Assumes nothing.
use Prim.Native.Nat.{◌<◌}
use native.Mathlib.Omega.{arith}
use mathlib.Core.Path.{◌≡◌, refl, sym, ◌∙◌}
use mathlib.Core.Logic.{◌↔◌, ◌≢◌}
use Rattle.terms.specs.Answers.{number_of}
use Rattle.controller.proofs.Names.{Answer, OutOfTurn, NoPlace, DatInhibited, CommandInhibited, DatInUse, Unpowered, NotCarried, WrongLength, NotYet, Err}
use Rattle.controller.proofs.Names.{NoTransfer, MemoryTooLarge}
use Rattle.terms.proofs.Answers.{refusal_value, told_apart}
use Rattle.controller.specs.Steps.{Step, World, Result, step_of}
use Rattle.controller.specs.Rows.{Row1, Row2, Row3, Row4, Row5, Row6, Row7, Row8, Row9, Row10, Row11}
use Rattle.controller.proofs.Given.{RowOf, Given, done, kept, given}
use Rattle.controller.proofs.Numbers.{number_of_lem}

-- a refusal is told by its number
refusal_named : (a b : Answer) → number_of a ≢ 0 → number_of b ≡ number_of a → b ≡ a
refusal_named a b z h = told_apart b a h (refusal_value b (λ y. z (sym h ∙ y)) ∙ sym (refusal_value a z))

-- ---- the rows: "Given exactly when"

module _ (w : World) (e : Step) where
  -- any refusal, by its name
  pub exactly : (a : Answer) → number_of a ≢ 0 → (number_of (step_of w e).answer ≡ number_of a) ↔ RowOf a w e
  exactly a z = (go (given w e), λ r. (number_of_lem w e a r).0)
    where
      go : {r : Result} → Given w e r → number_of r.answer ≡ number_of a → RowOf a w e
      go (done x) h = absurd (z (sym h))
      go (kept {a = b} c) h = rw (refusal_named a b z h) at c

  -- 0: "done", where none of the rows is met
  pub row_0 : (number_of (step_of w e).answer ≡ 0) ↔ ((a : Answer) → RowOf a w e → ⊥)
  row_0 = (λ h a r. let m = number_of_lem w e a r in omega arith, go (given w e))
    where
      go : {r : Result} → Given w e r → ((a : Answer) → RowOf a w e → ⊥) → number_of r.answer ≡ 0
      go (done x) n = refl
      go (kept {a} c) n = absurd (n a c)

  -- 1: "width not 1, 2 or 4; offset not a multiple of the width; offset + width over 256; value too big for the width"
  pub row_1 : (number_of (step_of w e).answer ≡ 1) ↔ Row1 w e
  row_1 = exactly (Err NoPlace) (omega arith)

  -- 2: "write wholly inside 004h-007h or 00Ch-00Dh while Command Inhibit (DAT) is 1"
  pub row_2 : (number_of (step_of w e).answer ≡ 2) ↔ Row2 w e
  row_2 = exactly (Err DatInhibited) (omega arith)

  -- 3: "command while Command Inhibit (CMD) is 1"
  pub row_3 : (number_of (step_of w e).answer ≡ 3) ↔ Row3 w e
  row_3 = exactly (Err CommandInhibited) (omega arith)

  -- 4: "command with data or response type 11b, not Abort, while Command Inhibit (DAT) is 1"
  pub row_4 : (number_of (step_of w e).answer ≡ 4) ↔ Row4 w e
  row_4 = exactly (Err DatInUse) (omega arith)

  -- 5: "command while SD Clock Enable or SD Bus Power is 0"
  pub row_5 : (number_of (step_of w e).answer ≡ 5) ↔ Row5 w e
  row_5 = exactly (Err Unpowered) (omega arith)

  -- 6: "command setting not carried"
  pub row_6 : (number_of (step_of w e).answer ≡ 6) ↔ Row6 w e
  row_6 = exactly (Err NotCarried) (omega arith)

  -- 7: "event out of turn"
  pub row_7 : (number_of (step_of w e).answer ≡ 7) ↔ Row7 w e
  row_7 = exactly (Err OutOfTurn) (omega arith)

  -- 8: "block given of length other than the block size; room for a taken block below it"
  pub row_8 : (number_of (step_of w e).answer ≡ 8) ↔ Row8 w e
  row_8 = exactly (Err WrongLength) (omega arith)

  -- 9: "turn: its response awaited, or a move due with the buffer full (write) or empty (read)"
  pub row_9 : (number_of (step_of w e).answer ≡ 9) ↔ Row9 w e
  row_9 = exactly (Err NotYet) (omega arith)

  -- 10: "turn: no transfer, a halted one, or engine stopped"
  pub row_10 : (number_of (step_of w e).answer ≡ 10) ↔ Row10 w e
  row_10 = exactly (Err NoTransfer) (omega arith)

  -- 11: "turn ...: lent memory over 16,777,216 bytes"
  pub row_11 : (number_of (step_of w e).answer ≡ 11) ↔ Row11 w e
  row_11 = exactly (Err MemoryTooLarge) (omega arith)

  -- 12 and 17 are a survey's and a written line's: no entry of the slot gives them
  pub below_12 : number_of (step_of w e).answer < 12
  below_12 = go (given w e)
    where
      go : {r : Result} → Given w e r → number_of r.answer < 12
      go (done x) = omega arith
      go (kept {a} c) = (number_of_lem w e a c).2
