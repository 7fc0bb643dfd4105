-- Each cause of the table's rows gives its row's number: what a step answers where the cause is met. Assumes nothing.
use Prim.Native.Nat.{ℕ, ◌%◌, ◌<◌}
use native.Mathlib.Omega.{arith}
use mathlib.Core.Path.{◌≡◌, refl, sym, ◌∙◌, ap}
use mathlib.Core.Logic.Iff
use mathlib.Core.Bool.{Bool, false, cond, not, ◌&&◌, true≢false}
use lib.ListN.{length}
use lib.Dec.{eqb}
use borrow.Author.Tests.{ne_eqb, lt-ltb}
use Rattle.terms.specs.Answers.{number_of}
use Rattle.registers.specs.Place.{edit_of, issues}
use Rattle.registers.specs.Block.{bus_power, bus_clock}
use Rattle.registers.specs.Word.{in_use}
use Rattle.registers.proofs.Tests.{fails}
use Rattle.registers.proofs.Command.{issues_unguarded}
use Rattle.engine.specs.Block.{give_of, take_of}
use Rattle.engine.specs.Buffer.{ready_of}
use Rattle.engine.specs.declared.transfer.Dat.TheVariants as dat
use Rattle.engine.proofs.Exactly as engine
use Rattle.controller.specs.Slot.{use_of, occupied}
use Rattle.controller.specs.Command.{request_of, is_abort, uses_dat, not_carried, judged, command_step}
use Rattle.controller.specs.Steps.{Step, write, World, step_of}
use Rattle.controller.specs.Rows.{NamesNoPlace, WritesNoPlace, as_written, Commands, Row1, Row2, Row3, Row4, Row5, Row6, Row7, Row8, Row9, Row10, Row11, reads, writes, guards, waits, crosses, dark, uncarried, already_in, already_out, no_response, no_giving, no_taking, no_rest, no_error, no_card, other_length, small_room, Idling, free, busy, stopped, stuck, halted, Due, due, awaits, no_bytes, idles, too_large}
use Rattle.controller.proofs.Names.{Option, Some, None, Answer, OutOfTurn, NoPlace, DatInhibited, CommandInhibited, DatInUse, Unpowered, NotCarried, Err, Ok}
use Rattle.controller.proofs.Names.{WrongLength, NotYet, NoTransfer, MemoryTooLarge, LimitTooHigh, LineRefused, Stage, Transfer, Dat}
use Rattle.controller.proofs.Names.{Request, Slot, Stepped, Registers, Place, Target, Word}
use Rattle.controller.proofs.Effects.{Hinges, busy_hinges, error_hinges, response_hinges}
use Rattle.controller.proofs.Causes.{by_test, Sits, nowhere, here, sits, Aims, astray, aims, aimed_at, crosses_test, dark_test, holds, resting_test, erring_test, responding_test, giving, taking}
use Rattle.controller.proofs.Given.{RowOf}

-- the number that a step gives
abbrev number : World → Step → ℕ
number w e = number_of (step_of w e).answer

-- an access that names no place has none
unplaced : {offset width : ℕ} {p : Option Place} → NamesNoPlace offset width → Sits offset width p → p ≡ None
unplaced u (nowhere v) = refl
unplaced u (here n word) = absurd (n u)

untargeted : {offset width value : ℕ} {t : Option Target} → WritesNoPlace offset width value → Aims offset width value t → t ≡ None
untargeted u (astray v) = refl
untargeted u (aims n word) = absurd (n u)

-- and one past the test is at its place
targeted : {offset width value : ℕ} {t : Option Target} → (WritesNoPlace offset width value → ⊥) → Aims offset width value t
    → (word : Word) × (t ≡ Some (record { word = word; edit = edit_of (offset % 4) width value }))
targeted n (astray u) = absurd (n u)
targeted n (aims m word) = (word, refl)

-- a judgement is the answer, issued or not
judged_answer : (s : Slot) (r : Registers) (q : Request) (a : Answer) → (judged s r q a).answer ≡ a
judged_answer s r q a = by_test (λ (x : Stepped). x.answer ≡ a) (eqb (number_of a) 0) (λ e. refl) (λ e. refl)

-- "Order: ... 3, 4, 5, 6", by the four tests
abbrev verdict : Bool → Bool → Bool → Bool → Answer
verdict a b c d = cond a (Err CommandInhibited) (cond b (Err DatInUse) (cond c (cond d (Err NotCarried) (Ok 0)) (Err Unpowered)))

module _ (w : World) where
  number_1 : {e : Step} → Row1 w e → number w e ≡ 1
  unfolding step_of
  number_1 (reads {offset} {width} u) = rw (unplaced u (sits offset width))
  number_1 (writes {offset} {width} {value} u) = rw (untargeted u (aimed_at offset width value))

  number_2 : {e : Step} → Row2 w e → number w e ≡ 2
  unfolding step_of
  number_2 (guards {offset} {width} {value} n g u) =
      let i : issues offset width ≡ false = (fails _ Iff.rfl).1 (λ i. true≢false (sym g ∙ issues_unguarded offset width i)) in
      rw ((targeted n (aimed_at offset width value)).1, i, u, g)

  -- a write that is a command is answered as it is judged, by four tests
  judgement : (offset width value : ℕ) → Commands offset width value → {a b c d : Bool}
      → (let r = as_written w.slot offset width value in
      let q = request_of r in
      occupied w.slot.command ≡ a
      → (uses_dat q && not (is_abort q) && in_use (use_of w.slot.dat)) ≡ b
      → (bus_clock r && bus_power r) ≡ c
      → not_carried q ≡ d
      → number w (write offset width value) ≡ number_of (verdict a b c d))
  unfolding step_of command_step
  judgement offset width value (n, i) o x p u =
      let r = as_written w.slot offset width value in
      rw ((targeted n (aimed_at offset width value)).1, i)
      (ap number_of (judged_answer w.slot r (request_of r) _ ∙ (λ j. verdict (o j) (x j) (p j) (u j))))

  number_3 : {e : Step} → Row3 w e → number w e ≡ 3
  number_3 (waits {offset} {width} {value} c o) = judgement offset width value c o refl refl refl

  number_4 : {e : Step} → Row4 w e → number w e ≡ 4
  number_4 (crosses {offset} {width} {value} c o x) = judgement offset width value c o ((crosses_test w.slot _).1 x) refl refl

  number_5 : {e : Step} → Row5 w e → number w e ≡ 5
  number_5 (dark {offset} {width} {value} c o x d) =
      judgement offset width value c o ((fails _ (crosses_test w.slot _)).1 x) ((dark_test (as_written w.slot offset width value)).1 d) refl

  number_6 : {e : Step} → Row6 w e → number w e ≡ 6
  number_6 (uncarried {offset} {width} {value} c o x d u) =
      judgement offset width value c o ((fails _ (crosses_test w.slot _)).1 x) ((holds _ (dark_test (as_written w.slot offset width value))).1 d) u

  -- an event that turns on one test, where that fails
  late : {x : Stepped} (t : Bool) → Hinges w t x → t ≡ false → number_of x.answer ≡ 7
  late t (after, h, f) e = rw (h, e)

  number_7 : {e : Step} → Row7 w e → number w e ≡ 7
  unfolding step_of give_of take_of
  number_7 (already_in c) = rw c
  number_7 (already_out c) = rw c
  number_7 (no_response {n} {words} h) = late _ (response_hinges w n words) ((fails _ (responding_test w.slot n)).1 h)
  number_7 (no_giving {block} h) = let e = (engine.given_7 w.slot.dat w.buffer block).1 (λ size g. h ((giving w).1 (size, g))) in rw e e
  number_7 (no_taking {room} h) = let e = (engine.taken_7 w.slot.dat w.buffer room).1 (λ size g. h ((taking w).1 (size, g))) in rw e e
  number_7 (no_rest h) = late _ (busy_hinges w) ((fails _ (resting_test w.slot.dat)).1 h)
  number_7 (no_error {n} h) = late _ (error_hinges w n) ((fails _ (erring_test w.slot.dat n)).1 h)
  number_7 (no_card c) = rw c

  number_8 : {e : Step} → Row8 w e → number w e ≡ 8
  unfolding step_of give_of take_of
  number_8 (other_length e m n) = rw (e, m, ne_eqb _ _ n)
  number_8 (small_room e m l) = rw (e, m, lt-ltb _ _ l)

  -- a turn is refused by the engine's own rows
  abbrev table : ℕ
  table = w.slot.registers.adma.low

  early : {t : Transfer} {s : Stage} → Due s → t.stage ≡ s → (ready_of t.way t.size (length w.buffer) t.held).0 ≡ 0
      → engine.Premature (length w.buffer) (dat.Runs t)
  early due e z = engine.no_bytes e z

  number_9 : {e : Step} → Row9 w e → number w e ≡ 9
  unfolding step_of
  number_9 (awaits m e n a) = (engine.turn_9 w.slot.dat table w.buffer w.memory).1 (m, rw e (engine.awaits n a))
  number_9 (no_bytes m e d z) = (engine.turn_9 w.slot.dat table w.buffer w.memory).1 (m, rw e (early d refl z))

  idling : {d : Dat} → Idling d → engine.Idling d
  idling free = engine.free
  idling busy = engine.busy
  idling (stopped e) = engine.stopped e
  idling stuck = engine.stuck
  idling halted = engine.halted

  number_10 : {e : Step} → Row10 w e → number w e ≡ 10
  unfolding step_of
  number_10 (idles m i) = (engine.turn_10 w.slot.dat table w.buffer w.memory).1 (m, idling i)

  number_11 : {e : Step} → Row11 w e → number w e ≡ 11
  unfolding step_of
  number_11 (too_large l) = (engine.turn_11 w.slot.dat table w.buffer w.memory).1 l

  -- the row of an answer gives its number, which is one from 1 to 11
  pub number_of_lem : (e : Step) (a : Answer) → RowOf a w e → (number w e ≡ number_of a) × (0 < number_of a) × (number_of a < 12)
  number_of_lem e (Ok v) r = absurd r
  number_of_lem e (Err NoPlace) r = (number_1 r, omega arith, omega arith)
  number_of_lem e (Err DatInhibited) r = (number_2 r, omega arith, omega arith)
  number_of_lem e (Err CommandInhibited) r = (number_3 r, omega arith, omega arith)
  number_of_lem e (Err DatInUse) r = (number_4 r, omega arith, omega arith)
  number_of_lem e (Err Unpowered) r = (number_5 r, omega arith, omega arith)
  number_of_lem e (Err NotCarried) r = (number_6 r, omega arith, omega arith)
  number_of_lem e (Err OutOfTurn) r = (number_7 r, omega arith, omega arith)
  number_of_lem e (Err WrongLength) r = (number_8 r, omega arith, omega arith)
  number_of_lem e (Err NotYet) r = (number_9 r, omega arith, omega arith)
  number_of_lem e (Err NoTransfer) r = (number_10 r, omega arith, omega arith)
  number_of_lem e (Err MemoryTooLarge) r = (number_11 r, omega arith, omega arith)
  number_of_lem e (Err LimitTooHigh) r = absurd r
  number_of_lem e (Err LineRefused) r = absurd r
