-- "Halted means only a reset frees it": every step leaves a halted use and a halted command as they are, but for a write of their bits of 02Fh.
-- Assumes nothing.
use Prim.Native.Nat.{ℕ}
use mathlib.Core.Path.{◌≡◌, refl, sym, ◌∙◌}
use mathlib.Core.List.{List}
use mathlib.Core.Bool.{Bool, true, false, not, false≢true, ◌&&◌, ◌||◌}
use lib.Dec.{eqb, ltb}
use Rattle.terms.specs.Answers.{is_done}
use Rattle.registers.specs.Place.{issues, target_of}
use Rattle.registers.specs.Word.{in_use, inhibits}
use Rattle.registers.specs.Reset.{resets_of}
use Rattle.registers.specs.Block.{bus_power, bus_clock}
use Rattle.table.specs.Memory.{too_large}
use Rattle.engine.specs.Turn as engine
use Rattle.engine.specs.Block as block
use Rattle.engine.specs.declared.transfer.Dat.TheVariants as dat
use Rattle.controller.specs.Slot.{use_of, occupied, halted_dat, awaited_halts, answered_dat}
use Rattle.controller.specs.Command.{request_of, would_be, is_busy, is_abort, uses_dat, not_carried, ordinary_dat, dat_issued, judge_of, judged, command_step}
use Rattle.controller.specs.Access.{dat_reset, write_at}
use Rattle.controller.specs.Card.{fits_error, respond_to, respond_of}
use Rattle.controller.specs.Data.{passed_as, busy_over_at, busy_over, data_error_at, data_error}
use Rattle.controller.specs.Steps.{Step, read, write, card_in, card_out, response, block_given, block_taken, busy_over_step, data_error_step, level, turn, World, step_of}
use Rattle.controller.specs.Halting.{is_halted, asked_at, asked, OnlyResets}
use Rattle.controller.specs.declared.slot.Command.TheVariants as command
use Rattle.controller.proofs.Names.{Answer, Turned, Passed, Dat, Way, Read, Write, Request, Command, Slot, Stepped, Registers, Reply, Target, Resets, Option, Some, None}
use Rattle.controller.proofs.Causes.{by_test}

-- what holds of a halted busy and of every halted transfer holds of every halted use
by_halted : (P : Dat → Type 0) → P dat.Stuck → ((way : Way) → P (dat.Halted way)) → (d : Dat) → is_halted d ≡ true → P d
by_halted P s h dat.Free e = absurd (false≢true e)
by_halted P s h (dat.Busy answered) e = absurd (false≢true e)
by_halted P s h (dat.Runs t) e = absurd (false≢true e)
by_halted P s h dat.Stuck e = s
by_halted P s h (dat.Halted way) e = h way

-- ---- the resets

reset_dat : (which : Resets) (d : Dat) → awaited_halts d ≡ d → (which.all || which.«data») ≡ false → dat_reset which d ≡ d
reset_dat which d a n = rw n (by_test (λ (x : Dat). x ≡ d) which.command (λ c. a) (λ c. refl))

-- ---- a command: with a use that is halted it has no data and no busy, or is an Abort

or_false : (a b : Bool) → (a || b) ≡ false → (a ≡ false) × (b ≡ false)
or_false true b e = absurd (false≢true (sym e))
or_false false b e = (refl, e)

ordinary_stays : (q : Request) (d : Dat) → uses_dat q ≡ false → ordinary_dat q d ≡ d
ordinary_stays q d n = let h = or_false q.«data» (is_busy q.waiting.kind) n in rw (h.0, h.1)

way_used_lem : (way : Way) → in_use (use_of (dat.Halted way)) ≡ true
way_used_lem Read = refl
way_used_lem Write = refl

module _ (s : Slot) (k : is_halted s.dat ≡ true) where
  abbrev Stays : Stepped → Type 0
  Stays r = r.slot.dat ≡ s.dat

  -- what a halt, a failed response, a good one and a refusal leave
  still : halted_dat s.dat ≡ s.dat
  still = by_halted (λ (d : Dat). halted_dat d ≡ d) refl (λ way. refl) s.dat k

  spared : awaited_halts s.dat ≡ s.dat
  spared = by_halted (λ (d : Dat). awaited_halts d ≡ d) refl (λ way. refl) s.dat k

  answered : answered_dat s.dat ≡ s.dat
  answered = by_halted (λ (d : Dat). answered_dat d ≡ d) refl (λ way. refl) s.dat k

  inhibited : in_use (use_of s.dat) ≡ true
  inhibited = by_halted (λ (d : Dat). in_use (use_of d) ≡ true) refl way_used_lem s.dat k

  -- 4 refuses a command that would use DAT, unless it is an Abort
  issued_stays : (q : Request) → (uses_dat q && not (is_abort q) && in_use (use_of s.dat)) ≡ false → dat_issued q s.dat ≡ s.dat
  issued_stays q n =
      by_test (λ (x : Dat). x ≡ s.dat) (is_abort q && in_use (use_of s.dat)) (λ a. still)
      (λ a. ordinary_stays q s.dat (unused (uses_dat q) (is_abort q) (in_use (use_of s.dat)) inhibited n a))
    where
      unused : (u a i : Bool) → i ≡ true → (u && not a && i) ≡ false → (a && i) ≡ false → u ≡ false
      unused false a i e n m = refl
      unused true true i e n m = absurd (false≢true (sym m ∙ e))
      unused true false i e n m = absurd (false≢true (sym n ∙ e))

  judged_stays : (r : Registers) (q : Request) (powered : Bool) → Stays (judged s r q (judge_of s q powered))
  judged_stays r q powered =
      by_test (λ (a : Answer). Stays (judged s r q a)) (occupied s.command) (λ o. refl)
      (λ o. by_test (λ (a : Answer). Stays (judged s r q a)) (uses_dat q && not (is_abort q) && in_use (use_of s.dat)) (λ u. refl)
      (λ u. by_test (λ (a : Answer). Stays (judged s r q a)) powered
      (λ p. by_test (λ (a : Answer). Stays (judged s r q a)) (not_carried q) (λ n. refl) (λ n. issued_stays q u)) (λ p. refl)))

  write_stays : (offset width : ℕ) (t : Option Target) → ((asked_at t offset width).all || (asked_at t offset width).«data») ≡ false → Stays (write_at t s offset width)
  unfolding command_step
  write_stays offset width None n = refl
  write_stays offset width (Some t) n =
      by_test Stays (issues offset width) (λ c. let r = would_be s t.edit in judged_stays r (request_of r) (bus_clock r && bus_power r))
      (λ c. by_test Stays (inhibits (use_of s.dat) offset width) (λ i. refl) (λ i. reset_dat (resets_of offset width t.edit) s.dat spared n))

  response_stays : (n : ℕ) (words : Reply) (c : Command) → Stays (respond_to c s n words)
  response_stays n words command.Idle = refl
  response_stays n words (command.Waits v) =
      by_test Stays (eqb n 0) (λ g. answered) (λ g. by_test Stays (fits_error v n) (λ f. spared) (λ f. refl))
  response_stays n words command.Halted = refl

-- ---- every step

use_stays : (w : World) (e : Step) → is_halted w.slot.dat ≡ true → ((asked e).all || (asked e).«data») ≡ false
    → (step_of w e).world.slot.dat ≡ w.slot.dat
unfolding step_of respond_of busy_over data_error engine.staged_of
use_stays w (read offset width) k n = refl
use_stays w (write offset width value) k n = write_stays w.slot k offset width (target_of offset width value) n
use_stays w card_in k n = by_test (Stays w.slot k) w.slot.card (λ c. refl) (λ c. refl)
use_stays w card_out k n = by_test (Stays w.slot k) w.slot.card (λ c. still w.slot k) (λ c. refl)
use_stays w (response result words) k n = response_stays w.slot k result words w.slot.command
use_stays w (block_given bytes) k n =
    by_halted (λ (d : Dat). (passed_as w.slot (block.given_of d w.buffer bytes).0).slot.dat ≡ w.slot.dat) refl (λ way. refl) w.slot.dat k
use_stays w (block_taken room) k n =
    by_halted (λ (d : Dat). (passed_as w.slot (block.taken_of d w.buffer room).0).slot.dat ≡ w.slot.dat) refl (λ way. refl) w.slot.dat k
use_stays w busy_over_step k n = by_halted (λ (d : Dat). (busy_over_at d w.slot).slot.dat ≡ w.slot.dat) refl (λ way. refl) w.slot.dat k
use_stays w (data_error_step number) k n =
    by_halted (λ (d : Dat). (data_error_at d w.slot number).slot.dat ≡ w.slot.dat) refl (λ way. refl) w.slot.dat k
use_stays w (level up) k n = by_test (Stays w.slot k) w.slot.card (λ c. refl) (λ c. refl)
use_stays w turn k n = turned w.slot.dat k
  where
    turned : (d : Dat) → is_halted d ≡ true → (engine.turn_of d w.slot.registers.adma.low w.buffer w.memory).0.dat ≡ d
    turned d k =
        by_test (λ (r : Turned × List ℕ × List ℕ). r.0.dat ≡ d) (too_large w.memory) (λ l. refl)
        (λ l. by_halted (λ (x : Dat). (engine.staged_of x w.slot.registers.adma.low w.buffer w.memory).0.dat ≡ x) refl (λ way. refl) d k)

module _ (w : World) (h : w.slot.command ≡ command.Halted) where
  abbrev Holds : Stepped → Type 0
  Holds r = r.slot.command ≡ command.Halted

  passed : (p : Passed) → Holds (passed_as w.slot p)
  passed p = by_test Holds (is_done p.answer) (λ a. h) (λ a. h)

  rested : (d : Dat) → Holds (busy_over_at d w.slot)
  rested dat.Free = h
  rested (dat.Busy answered) = by_test Holds answered (λ a. h) (λ a. h)
  rested (dat.Runs t) = h
  rested dat.Stuck = h
  rested (dat.Halted way) = h

  erred : (n : ℕ) (d : Dat) → Holds (data_error_at d w.slot n)
  erred n dat.Free = h
  erred n (dat.Busy answered) = by_test Holds (answered && eqb n 0) (λ a. h) (λ a. h)
  erred n (dat.Runs t) = by_test Holds (t.answered && ltb n 3) (λ a. h) (λ a. h)
  erred n dat.Stuck = h
  erred n (dat.Halted way) = h

  command_stays : (e : Step) → ((asked e).all || (asked e).command) ≡ false → (step_of w e).world.slot.command ≡ command.Halted
  unfolding step_of respond_of busy_over data_error command_step
  command_stays (read offset width) n = h
  command_stays (write offset width value) n = go (target_of offset width value) n
    where
      go : (t : Option Target) → ((asked_at t offset width).all || (asked_at t offset width).command) ≡ false → Holds (write_at t w.slot offset width)
      go None n = h
      go (Some t) n =
          by_test Holds (issues offset width) (λ c. rw h)
          (λ c. by_test Holds (inhibits (use_of w.slot.dat) offset width) (λ i. h) (λ i. rw n h))
  command_stays card_in n = by_test Holds w.slot.card (λ c. h) (λ c. h)
  command_stays card_out n = by_test Holds w.slot.card (λ c. rw h) (λ c. h)
  command_stays (response result words) n = rw h
  command_stays (block_given bytes) n = passed (block.given_of w.slot.dat w.buffer bytes).0
  command_stays (block_taken room) n = passed (block.taken_of w.slot.dat w.buffer room).0
  command_stays busy_over_step n = rested w.slot.dat
  command_stays (data_error_step number) n = erred number w.slot.dat
  command_stays (level up) n = by_test Holds w.slot.card (λ c. h) (λ c. h)
  command_stays turn n = h

-- "Halted means only a reset frees it"
pub only_resets : (w : World) (e : Step) → OnlyResets w e
only_resets w e = record { use_stays = use_stays w e; command_stays = λ h. command_stays w h e }
