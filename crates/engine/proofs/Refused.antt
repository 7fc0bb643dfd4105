-- A refused turn or block event changes nothing; its value is 0 by `refusal_value` of terms. Assumes nothing.
use Prim.Native.Nat.{ℕ}
use mathlib.Core.Path.{◌≡◌, refl}
use mathlib.Core.Logic.{◌≢◌}
use mathlib.Core.List.{List}
use Rattle.terms.specs.Answers.{number_of}
use Rattle.engine.specs.Turn.{refused_as, turn_of}
use Rattle.engine.specs.Block.{kept_as, given_of, taken_of}
use Rattle.engine.proofs.Names.{Transfer, Dat, Turned, Passed}
use Rattle.engine.proofs.Exactly.{Turns, large, idle, early, done, turn_case, Passes, out, wrong, passed, given_case, taken_case}

module _ (d : Dat) (table : ℕ) (x mem : List ℕ) where
  -- "All but 0 ... change nothing": a turn
  pub turn_same : number_of (turn_of d table x mem).0.answer ≢ 0 → turn_of d table x mem ≡ (refused_as d table (turn_of d table x mem).0.answer, x, mem)
  turn_same = go (turn_case d table x mem)
    where
      go : {r : Turned × List ℕ × List ℕ} → Turns d table x mem r → number_of r.0.answer ≢ 0 → r ≡ (refused_as d table r.0.answer, x, mem)
      go (large m) n = refl
      go (idle s i) n = refl
      go (early s p) n = refl
      go (done s i p e r owed held count int next y m) n = absurd (n refl)

same : {Due Wrong Right : ℕ → Type 0} {did : Transfer → Passed × List ℕ} {d : Dat} {room : List ℕ} {r : Passed × List ℕ}
    → ((t : Transfer) → number_of (did t).0.answer ≡ 0) → Passes Due Wrong Right did d room r → number_of r.0.answer ≢ 0
    → r ≡ (kept_as d r.0.answer, room)
same z (out h) n = refl
same z (wrong f w) n = refl
same z (passed {t} e f g) n = absurd (n (z t))

-- "All but 0 ... change nothing": a block given
pub given_same : (d : Dat) (x block : List ℕ) → number_of (given_of d x block).0.answer ≢ 0
    → given_of d x block ≡ (kept_as d (given_of d x block).0.answer, x)
given_same d x block = same (λ t. refl) (given_case d x block)

-- "All but 0 ... change nothing": a block taken
pub taken_same : (d : Dat) (x room : List ℕ) → number_of (taken_of d x room).0.answer ≢ 0
    → taken_of d x room ≡ (kept_as d (taken_of d x room).0.answer, room)
taken_same d x room = same (λ t. refl) (taken_case d x room)
