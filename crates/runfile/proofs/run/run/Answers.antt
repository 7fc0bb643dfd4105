-- The memory lent to the ride is the front of the one that was lent to the run.
use Rattle.std.proofs.Common.{◌≡◌, ℕ, List, ◌++◌, length, take, ap, arith, length-append}
use Rattle.std.proofs.Math.Seq.{take-append_seam}
use Rattle.runfile.proofs.run.run.Goals.{in-Some, in_default}
use Rattle.runfile.proofs.run.run.Goals as goal

front : (n : ℕ) (xs ys m zs : List ℕ) → m ≡ xs ++ ys → length xs ≡ n → xs ≡ zs → take n m ≡ zs
front n xs ys m zs e l k = rw (e, ← l, take-append_seam) k

pub returns-clause-memory : goal.returns-clause-memory
returns-clause-memory c = elim c.match-judge.branch [
  | in-Some w ↦
      let now = w.run.new.self.memory.now in
      let m : c.match-judge.mem ≡ now ++ w.split_at_mut-memory.result.1.now = grind arith in
      let l : length now ≡ w.in-Some.layout.memory = omega (arith, length-append {A = ℕ}, ap length m) in
      rw (← w.in-Some.ensures.value) (front _ _ _ _ _ m l (ap (λ q. q.1.0) w.run.ensures.run))
  | in_default w ↦ rw (← c.judge.ensures.value, w.in_default.is) tt
]
