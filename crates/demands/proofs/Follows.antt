-- A world of the controller beside one of its engine: every event of the engine is a step of the controller, which keeps them so. Assumes nothing.
use Prim.Native.Nat.{ℕ, suc, ◌+◌}
use native.Mathlib.Omega.{arith}
use mathlib.Core.Path.{◌≡◌, refl, sym, ap, ◌∙◌, subst}
use mathlib.Core.List.{List, [], ◌++◌, append-nil}
use mathlib.Core.Bool.{Bool, true, false, cond, not}
use lib.ListN.{take}
use Rattle.terms.specs.Answers.{value_of, is_done}
use Rattle.table.specs.Fetch.{byte_of}
use Rattle.table.specs.declared.fetch.Failure.{Failure}
use Rattle.registers.specs.Block.{with_low}
use Rattle.registers.specs.declared.block.Adma.{Adma}
use Rattle.registers.specs.declared.block.Registers.{Registers}
use Rattle.registers.specs.declared.block.Reply.{Reply}
use Rattle.engine.specs.Transfer as transfer
use Rattle.engine.specs.Transfer.{runs_of}
use Rattle.engine.specs.Turn.{turn_of}
use Rattle.engine.specs.Block.{Passed, given_of, taken_of}
use Rattle.engine.specs.Run as engine
use Rattle.engine.specs.Run.{told_of, awaits_of, replied_of, after_reply, after_turn, after_block}
use Rattle.engine.specs.declared.transfer.Dat.{Dat}
use Rattle.engine.specs.declared.transfer.Dat.TheVariants.{Free, Busy, Runs, Stuck, Halted}
use Rattle.engine.specs.declared.transfer.Outcome.{Outcome}
use Rattle.engine.specs.declared.transfer.Outcome.TheVariants.{Goes, Completes, Fails}
use Rattle.engine.proofs.Worlds.{told_goes}
use Rattle.controller.specs.Slot.{with_sides, stepped_as, answered_dat}
use Rattle.controller.specs.Card.{respond_to, respond_of}
use Rattle.controller.specs.Data.{counts_of, counted_down, outcome_at, ring_at, passed_as}
use Rattle.controller.specs.Steps.{Step, response, block_given, block_taken, turn, World, plain, step_of}
use Rattle.controller.specs.declared.slot.Waiting.{Waiting}
use Rattle.controller.specs.declared.slot.Command.{Command}
use Rattle.controller.specs.declared.slot.Command.TheVariants as command
use Rattle.controller.specs.declared.slot.Slot.{Slot}
use Rattle.controller.proofs.Causes.{by_test}
use Rattle.controller.proofs.Paired.{Beside}
use Rattle.demands.specs.Run.{count_turn, passing}
use Rattle.demands.proofs.Sides.{never, awaits_too}
use Rattle.demands.proofs.Leads.{Leads, stays, goes, completes, fails, turn_leads, given_leads, taken_leads}

-- is the DAT side anything but busy?
abbrev pub carries : Dat → Bool
carries Free = true
carries (Busy answered) = false
carries (Runs t) = true
carries Stuck = true
carries (Halted way) = true

-- a world of the controller beside one of the engine
pub record Follows (w : World) (v : engine.World) : Type 0 where
  pub dat : w.slot.dat ≡ v.dat
  pub table : w.slot.registers.adma.low ≡ v.table
  pub buffer : w.buffer ≡ v.buffer
  pub memory : w.memory ≡ v.memory
  -- a use that awaits its response stands beside a command that waits
  pub waits : Beside w.slot.dat w.slot.command
  -- nothing is told while a transfer runs; 054h is the byte of the failure told
  pub silent : runs_of v.dat ≡ true → v.told ≡ Goes
  pub fault : (f : Failure) → v.told ≡ Fails f → w.slot.registers.adma.fault ≡ byte_of f
  -- the DAT side carries data, or did: nothing in such a run makes it busy
  pub carrying : carries v.dat ≡ true

-- ---- what is told

-- what `Follows` says beyond that the two worlds are the same
abbrev pub Tells : Dat → Command → Outcome → ℕ → Type 0
Tells d c told fault =
    Beside d c × (runs_of d ≡ true → told ≡ Goes) × ((f : Failure) → told ≡ Fails f → fault ≡ byte_of f) × (carries d ≡ true)

-- read off two worlds
pub tale : {w : World} {v : engine.World} → Follows w v → Tells w.slot.dat w.slot.command v.told w.slot.registers.adma.fault
tale f = (f.waits, rw f.dat f.silent, f.fault, rw f.dat f.carrying)

-- and back
pub made : (w : World) (v : engine.World) → w.slot.dat ≡ v.dat → w.slot.registers.adma.low ≡ v.table → w.buffer ≡ v.buffer
    → w.memory ≡ v.memory → Tells w.slot.dat w.slot.command v.told w.slot.registers.adma.fault → Follows w v
made w v d t x m (b, s, f, k) =
    record { dat = d; table = t; buffer = x; memory = m; waits = b; silent = rw d at s; fault = f; carrying = rw d at k }

-- a turn or a block tells the end of a transfer, once
lead_tells : (c : Command) (told : Outcome) (r : Registers) {d : Dat} {p : Passed} → Leads d p → Tells d c told r.adma.fault
    → Tells p.dat c (told_of told p.outcome) (outcome_at p.outcome r).adma.fault
lead_tells c told r (stays e) h = rw (told_goes told) h
lead_tells c told r goes (b, s, f, k) = rw (s refl) (b, λ e. refl, λ state e. cc, refl)
lead_tells c told r completes (b, s, f, k) = rw (s refl) (never, never, λ state e. cc, refl)
lead_tells c told r fails (b, s, f, k) = rw (s refl) (never, never, λ state e. cc, refl)

-- a response tells nothing; to the engine it is none where none is awaited
answer_tells : {c : Command} {told : Outcome} {fault : ℕ} (d : Dat) → Tells d c told fault
    → Tells (answered_dat d) command.Idle told fault × (answered_dat d ≡ cond (awaits_of d) (replied_of d) d)
answer_tells Free (b, s, f, k) = ((never, s, f, k), refl)
answer_tells (Busy answered) (b, s, f, k) = never k
answer_tells (Runs t) (b, s, f, k) = ((never, s, f, k), go t.answered refl)
  where
    go : (b : Bool) → t.answered ≡ b → Runs (transfer.respond_of t) ≡ cond (not b) (Runs (transfer.respond_of t)) (Runs t)
    go true e = rw e
    go false e = refl
answer_tells Stuck (b, s, f, k) = ((never, s, f, k), refl)
answer_tells (Halted way) (b, s, f, k) = ((never, s, f, k), refl)

-- ---- one event

-- a step of the controller beside a move of the engine: the worlds after them, the turns counted on from any number, the bytes that passed
abbrev pub Along : World → Step → engine.World → engine.World → Type 0
Along w e v after =
    Follows (step_of w e).world after × ((n : ℕ) → n + after.turns ≡ count_turn e (step_of w e).answer n + v.turns)
    × (after.passed ≡ v.passed ++ passing e (step_of w e))

-- a world of the engine with the counts of another
abbrev shape : Dat → ℕ → Outcome → List ℕ → List ℕ → engine.World → engine.World
shape d table told x mem v =
    record { dat = d; table = table; told = told; buffer = x; memory = mem; passed = v.passed; rings = v.rings; turns = v.turns; steps = v.steps }

-- the engine's world as the controller's shows it
abbrev seen : World → engine.World → engine.World
seen w v = shape w.slot.dat w.slot.registers.adma.low v.told w.buffer w.memory v

-- registers with 054h to 05Fh as given
abbrev Holds : Adma → Registers → Type 0
Holds a r = r.adma ≡ a

-- a slot after a block event: a refused one is the case in which nothing is counted down
pub passed_is : (s : Slot) {d : Dat} {p : Passed} → s.dat ≡ d → Leads d p
    → passed_as s p
    ≡ stepped_as p.answer
    (with_sides s (outcome_at p.outcome (cond (is_done p.answer) (counted_down s.dat s.registers) s.registers)) s.command p.dat)
passed_is s e (stays n) = rw (n, ← e)
passed_is s e goes = refl
passed_is s e completes = refl
passed_is s e fails = refl

module _ (w : World) (v : engine.World) (f : Follows w (seen w v)) where
  -- the worlds after a turn or a block
  moved : {p : Passed} → Leads w.slot.dat p → (r : Registers) (table : ℕ) → Holds (with_low w.slot.registers table).adma r
      → (x mem : List ℕ) (after : engine.World)
      → Follows (record { slot = with_sides w.slot (outcome_at p.outcome r) w.slot.command p.dat; buffer = x; memory = mem })
      (shape p.dat table (told_of v.told p.outcome) x mem after)
  moved {p} l r table e x mem after =
      made _ _ refl (low p.outcome ∙ ap (λ (a : Adma). a.low) e) refl refl (lead_tells w.slot.command v.told r l (rw e (tale f)))
    where
      low : (o : Outcome) → (outcome_at o r).adma.low ≡ r.adma.low
      low Goes = refl
      low Completes = refl
      low (Fails f) = refl

  -- with the block that passes, by the value of the answer
  blocked : (p : Passed) (x : List ℕ) (block : ℕ → List ℕ) → Leads w.slot.dat p
      → let after = after_block (seen w v) p x (block (value_of p.answer)) in
      Follows (record { slot = (passed_as w.slot p).slot; buffer = x; memory = w.memory }) after
      × (after.passed ≡ v.passed ++ let a = (passed_as w.slot p).answer in cond (is_done a) (block (value_of a)) [])
  blocked p x block l =
      let r = w.slot.registers in
      let counted = by_test (Holds r.adma) (counts_of w.slot.dat) (λ c. refl) (λ c. refl) in
      rw (passed_is w.slot refl l) (
        moved l (cond (is_done p.answer) (counted_down w.slot.dat r) r) r.adma.low
            (by_test (Holds r.adma) (is_done p.answer) (λ a. counted) (λ a. refl)) x w.memory
            (after_block (seen w v) p x (block (value_of p.answer))),
        joined (is_done p.answer) (block (value_of p.answer)),
      )
    where
      joined : (t : Bool) (bytes : List ℕ) → cond t (v.passed ++ bytes) v.passed ≡ v.passed ++ cond t bytes []
      joined true bytes = refl
      joined false bytes = sym (append-nil v.passed)

  turn_along : Along w turn (seen w v) (engine.next (seen w v) engine.go)
  unfolding step_of engine.next
  turn_along =
      let r = turn_of w.slot.dat w.slot.registers.adma.low w.buffer w.memory in
      let low = with_low w.slot.registers r.0.table in (
        moved (turn_leads w.slot.dat w.slot.registers.adma.low w.buffer w.memory) (ring_at r.0.int low) r.0.table
            (by_test (Holds low.adma) r.0.int (λ i. refl) (λ i. refl)) r.1 r.2 (after_turn (seen w v) r),
        counted (is_done r.0.answer),
        sym (append-nil v.passed),
      )
    where
      counted : (t : Bool) (n : ℕ) → n + cond t (suc v.turns) v.turns ≡ cond t (suc n) n + v.turns
      counted true n = omega arith
      counted false n = refl

  given_along : (block : List ℕ) → Along w (block_given block) (seen w v) (engine.next (seen w v) (engine.given block))
  unfolding step_of engine.next
  given_along block =
      let r = given_of w.slot.dat w.buffer block in
      let (g, p) = blocked r.0 r.1 (λ n. block) (given_leads w.slot.dat w.buffer block) in (g, λ n. refl, p)

  taken_along : (room : List ℕ) → Along w (block_taken room) (seen w v) (engine.next (seen w v) (engine.taken room))
  unfolding step_of engine.next
  taken_along room =
      let r = taken_of w.slot.dat w.buffer room in
      let (g, p) = blocked r.0 w.buffer (λ n. take n r.1) (taken_leads w.slot.dat w.buffer room) in (g, λ n. refl, p)

  -- accepted or refused: a response that the engine awaits is one to a waiting command
  response_along : (words : Reply) → Along w (response 0 words) (seen w v) (engine.next (seen w v) engine.reply)
  unfolding step_of respond_of engine.next
  response_along words =
      let (t, e) = answer_tells w.slot.dat (tale f) in
      by_test P (awaits_of w.slot.dat)
      (λ a. let (q, z) = f.waits (awaits_too w.slot.dat a) in rw z (good q (after_reply (seen w v)) (rw a at e), λ n. refl, sym (append-nil v.passed)))
      (λ a. (unasked (rw a at e) w.slot.command, λ n. refl, sym (append-nil v.passed)))
    where
      After : Command → engine.World → Type 0
      After c x = Follows (plain w (respond_to c w.slot 0 words)).world x

      P : engine.World → Type 0
      P x = After w.slot.command x × ((n : ℕ) → n + x.turns ≡ n + v.turns) × (x.passed ≡ v.passed ++ [])

      good : (q : Waiting) (x : engine.World) → answered_dat w.slot.dat ≡ x.dat
          → After (command.Waits q) (shape x.dat w.slot.registers.adma.low v.told w.buffer w.memory x)
      good q x e = made _ _ e refl refl refl (answer_tells w.slot.dat (tale f)).0

      unasked : answered_dat w.slot.dat ≡ w.slot.dat → (c : Command) → After c (seen w v)
      unasked e command.Idle = f
      unasked e (command.Waits q) = good q (seen w v) e
      unasked e command.Halted = f

-- an event of the engine as a step of the controller, with the words of a response
abbrev pub step_with : Reply → engine.Event → Step
step_with words engine.reply = response 0 words
step_with words engine.go = turn
step_with words (engine.given block) = block_given block
step_with words (engine.taken room) = block_taken room

-- every event of the engine is that step, whether it is accepted or refused
pub event_along : (words : Reply) (w : World) (v : engine.World) (event : engine.Event) → Follows w v
    → Along w (step_with words event) v (engine.next v event)
event_along words w v event f =
    subst (λ (x : engine.World). Along w (step_with words event) x (engine.next x event)) same (along event (subst (Follows w) (sym same) f))
  where
    same : seen w v ≡ v
    same = λ j. shape (f.dat j) (f.table j) v.told (f.buffer j) (f.memory j) v

    along : (event : engine.Event) → Follows w (seen w v) → Along w (step_with words event) (seen w v) (engine.next (seen w v) event)
    along engine.reply g = response_along w v g words
    along engine.go g = turn_along w v g
    along (engine.given block) g = given_along w v g block
    along (engine.taken room) g = taken_along w v g room
