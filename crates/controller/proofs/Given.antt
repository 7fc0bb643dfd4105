-- Every step is done, or a row of the table refuses it and nothing is changed: the cases of every entry, said once. Assumes nothing.
use Prim.Native.Nat.{ℕ, ◌%◌, ◌≤◌, ◌<◌}
use mathlib.Core.Path.{◌≡◌, refl, sym, ◌∙◌}
use mathlib.Core.Logic.Iff
use mathlib.Core.Logic.{◌≢◌}
use mathlib.Core.List.{List, []}
use mathlib.Core.Bool.{Bool, true, false, not, ◌&&◌, true≢false, false≢true}
use lib.ListN.{length}
use borrow.Author.Tests.{not-false}
use Rattle.terms.specs.Counts.{fewer}
use Rattle.table.specs.Memory.{memory_limit}
use Rattle.registers.specs.Place.{edit_of, issues, guarded}
use Rattle.registers.specs.Word.{in_use, inhibits}
use Rattle.registers.specs.Block.{bus_power, bus_clock}
use Rattle.registers.specs.Access.{read_at}
use Rattle.registers.specs.Reset.{resets_of}
use Rattle.registers.proofs.Tests.{both, fails}
use Rattle.engine.specs.Block.{gave_of, emptied_of, took_of}
use Rattle.engine.specs.Turn.{turned_as}
use Rattle.engine.specs.Transfer.{dat_of}
use Rattle.engine.proofs.Exactly as engine
use Rattle.engine.specs.declared.transfer.Dat.TheVariants as dat
use Rattle.controller.specs.Data.{passed_as, turned_of}
use Rattle.controller.specs.Slot.{use_of, occupied, facts_of, stepped_as}
use Rattle.controller.specs.Command.{request_of, not_carried, judged, command_step}
use Rattle.controller.specs.Access.{write_at}
use Rattle.controller.specs.Steps.{Step, read, write, card_in, card_out, response, block_given, block_taken, busy_over_step, data_error_step, level, turn, World, Result, plain, step_of, lent}
use Rattle.controller.specs.Rows.{as_written, Commands, Row1, Row2, Row3, Row4, Row5, Row6, Row7, Row8, Row9, Row10, Row11, reads, writes, guards, waits, crosses, dark, uncarried, already_in, already_out, no_response, no_giving, no_taking, no_rest, no_error, no_card, other_length, small_room, Idling, free, busy, stopped, stuck, halted, due, awaits, no_bytes, idles, too_large}
use Rattle.controller.proofs.Names.{BlockCount, ByteCount, Answer, OutOfTurn, NoPlace, DatInhibited, CommandInhibited, DatInUse, Unpowered, Ok, Option, Err}
use Rattle.controller.proofs.Names.{NotCarried, WrongLength, NotYet, NoTransfer, MemoryTooLarge, LimitTooHigh, LineRefused}
use Rattle.controller.proofs.Names.{Transfer, Dat, Next, Fetch, Move, Stop, Finish, Fail, Turned, Passed, Stepped, Registers, Place, Target}
use Rattle.controller.proofs.Effects.{awaiting, Effect, same, stores, passes, turns, Hinges, in_hinges, out_hinges, level_hinges, busy_hinges, error_hinges, response_hinges}
use Rattle.controller.proofs.Causes.{by_test, Sits, nowhere, here, sits, Aims, astray, aims, aimed_at, crosses_test, dark_test, resting_test, erring_test, responding_test, giving, taking}

-- the row that gives an answer: "Given exactly when"; no row of these entries is done, 12 or 17
abbrev pub RowOf : Answer → World → Step → Type 0
RowOf (Ok v) w e = ⊥
RowOf (Err NoPlace) w e = Row1 w e
RowOf (Err DatInhibited) w e = Row2 w e
RowOf (Err CommandInhibited) w e = Row3 w e
RowOf (Err DatInUse) w e = Row4 w e
RowOf (Err Unpowered) w e = Row5 w e
RowOf (Err NotCarried) w e = Row6 w e
RowOf (Err OutOfTurn) w e = Row7 w e
RowOf (Err WrongLength) w e = Row8 w e
RowOf (Err NotYet) w e = Row9 w e
RowOf (Err NoTransfer) w e = Row10 w e
RowOf (Err MemoryTooLarge) w e = Row11 w e
RowOf (Err LimitTooHigh) w e = ⊥
RowOf (Err LineRefused) w e = ⊥

-- what a step gives: it is done, or a row refuses it, and world and room are as they were
pub data Given (w : World) (e : Step) : Result → Type 0 where
  done : {v : ℕ} {after : World} {room : List ℕ} → Effect w after.slot → Given w e (record { answer = Ok v; world = after; room = room })
  kept : {a : Answer} → RowOf a w e → Given w e (record { answer = a; world = w; room = lent e })

-- ---- the accesses

given_read : (w : World) (offset width : ℕ) → Given w (read offset width) (step_of w (read offset width))
unfolding step_of
given_read w offset width = go (sits offset width)
  where
    go : {p : Option Place} → Sits offset width p
        → Given w (read offset width) (plain w (stepped_as (read_at p (facts_of w.slot) w.slot.registers) w.slot))
    go (nowhere u) = kept (reads u)
    go (here n word) = done same

-- "Order: ... 3, 4, 5, 6"
given_command : (w : World) (offset width value : ℕ) → Commands offset width value
    → Given w (write offset width value) (plain w (command_step w.slot (edit_of (offset % 4) width value)))
unfolding command_step
given_command w offset width value c =
    by_test P (occupied w.slot.command) (λ o. kept (waits c o))
    (λ o. by_test P _ (λ x. kept (crosses c o ((crosses_test w.slot r).0 x)))
    (λ x. let clear = (fails _ (crosses_test w.slot r)).0 x in
    by_test P (bus_clock r && bus_power r)
    (λ p. by_test P (not_carried (request_of r)) (λ n. kept (uncarried c o clear (λ d. true≢false (sym p ∙ (dark_test r).1 d)) n))
    (λ n. done (Effect.issues (edit_of (offset % 4) width value) (request_of r))))
    (λ p. kept (dark c o clear ((dark_test r).0 p)))))
  where
    r : Registers
    r = as_written w.slot offset width value

    P : Answer → Type 0
    P a = Given w (write offset width value) (plain w (judged w.slot r (request_of r) a))

-- "1 first"
given_write : (w : World) (offset width value : ℕ) → Given w (write offset width value) (step_of w (write offset width value))
unfolding step_of
given_write w offset width value = go (aimed_at offset width value)
  where
    P : Stepped → Type 0
    P s = Given w (write offset width value) (plain w s)

    go : {t : Option Target} → Aims offset width value t → P (write_at t w.slot offset width)
    go (astray u) = kept (writes u)
    go (aims n word) =
        by_test P (issues offset width) (λ i. given_command w offset width value (n, i))
        (λ i. by_test P (inhibits (use_of w.slot.dat) offset width)
        (λ h. let x = (both (in_use (use_of w.slot.dat)) (guarded offset width) Iff.rfl Iff.rfl).0 h in kept (guards n x.1 x.0))
        (λ h. done (stores word (edit_of (offset % 4) width value) (resets_of offset width (edit_of (offset % 4) width value)))))

-- ---- the card's events

-- an event that turns on one test
given_hinged : (w : World) (e : Step) (t : Bool) {x : Stepped} → Hinges w t x → (t ≡ false → Row7 w e) → lent e ≡ [] → Given w e (plain w x)
given_hinged w e true (after, h, f) r l = rw h (done (f refl))
given_hinged w e false (after, h, f) r l = rw (h, ← l) (kept (r refl))

-- a transfer that a block or a turn leaves awaits its response only where it did
follows : (t : Transfer) (left : BlockCount) (owed held : ByteCount) (next : Next)
    → awaiting (dat_of t left owed held next) ≡ true → awaiting (dat.Runs t) ≡ true
follows t left owed held Fetch a = a
follows t left owed held (Move hand) a = a
follows t left owed held Stop a = a
follows t left owed held Finish a = absurd (false≢true a)
follows t left owed held (Fail state) a = absurd (false≢true a)

-- ---- the blocks: "7 before 8"

given_given : (w : World) (block : List ℕ) → Given w (block_given block) (step_of w (block_given block))
unfolding step_of
given_given w block = go (engine.given_case w.slot.dat w.buffer block)
  where
    other : {d : Dat} {size : ℕ} → w.slot.dat ≡ d → engine.Gives (length w.buffer) d size → length block ≢ size → Row8 w (block_given block)
    other e (engine.gives way a h l) n = other_length e (engine.gives_may (engine.gives way a h l)) n

    go : {r : Passed × List ℕ} → engine.Given w.slot.dat w.buffer block r
        → Given w (block_given block)
        (let s = passed_as w.slot r.0 in record { answer = s.answer; world = record { slot = s.slot; buffer = r.1; memory = w.memory }; room = [] })
    go (engine.out h) = kept (no_giving (λ g. let (size, f) = (giving w).0 g in h size f))
    go (engine.wrong g n) = kept (other refl g n)
    go (engine.passed {t} e g l) = let p = (gave_of t w.buffer block).0 in done (passes p.dat p.outcome (rw e (λ a. a)))

given_taken : (w : World) (room : List ℕ) → Given w (block_taken room) (step_of w (block_taken room))
unfolding step_of
given_taken w room = go (engine.taken_case w.slot.dat w.buffer room)
  where
    small : {d : Dat} {size : ℕ} → w.slot.dat ≡ d → engine.Takes (length w.buffer) d size → length room < size → Row8 w (block_taken room)
    small e (engine.takes way h) l = small_room e (engine.takes_may (engine.takes way h)) l

    go : {r : Passed × List ℕ} → engine.Taken w.slot.dat w.buffer room r
        → Given w (block_taken room)
        (let s = passed_as w.slot r.0 in
        record { answer = s.answer; world = record { slot = s.slot; buffer = w.buffer; memory = w.memory }; room = r.1 })
    go (engine.out h) = kept (no_taking (λ g. let (size, f) = (taking w).0 g in h size f))
    go (engine.wrong g l) = kept (small refl g l)
    go (engine.passed {t} e g l) =
        let p = (took_of t w.buffer room).0 in
        done (passes p.dat p.outcome (rw e (follows t _ _ _ (emptied_of t.stage (fewer t.left)))))

-- ---- turns: "11, then 10, then 9"

-- as the engine's own cases say
given_turn : (w : World) → Given w turn (step_of w turn)
unfolding step_of
given_turn w = go (engine.turn_case w.slot.dat w.slot.registers.adma.low w.buffer w.memory)
  where
    idling : {d : Dat} → engine.Idling d → Idling d
    idling engine.free = free
    idling engine.busy = busy
    idling (engine.stopped g) = stopped g
    idling engine.stuck = stuck
    idling engine.halted = halted

    early : {d : Dat} → length w.memory ≤ memory_limit → w.slot.dat ≡ d → engine.Premature (length w.buffer) d → Row9 w turn
    early m e (engine.awaits n a) = awaits m e n a
    early m e (engine.no_bytes g z) = no_bytes m e (rw g due) z

    go : {r : Turned × List ℕ × List ℕ} → engine.Turns w.slot.dat w.slot.registers.adma.low w.buffer w.memory r
        → Given w turn
        (let s = turned_of w.slot r.0 in record { answer = s.answer; world = record { slot = s.slot; buffer = r.1; memory = r.2 }; room = [] })
    go (engine.large l) = kept (too_large l)
    go (engine.idle m i) = kept (idles m (idling i))
    go (engine.early m p) = kept (early m refl p)
    go (engine.done {t} {reached} m i p e r owed held count int next x mem) =
        done (turns (turned_as t owed held count reached int next) r (rw e (follows t t.left owed held next)))

-- "An answer is a number and a value": what every step gives
pub given : (w : World) (e : Step) → Given w e (step_of w e)
unfolding step_of
given w (read offset width) = given_read w offset width
given w (write offset width value) = given_write w offset width value
given w card_in = given_hinged w card_in (not w.slot.card) (in_hinges w) (λ h. already_in (not-false _ h)) refl
given w card_out = given_hinged w card_out w.slot.card (out_hinges w) already_out refl
given w (response n words) =
    given_hinged w (response n words) _ (response_hinges w n words) (λ h. no_response ((fails _ (responding_test w.slot n)).0 h)) refl
given w (block_given block) = given_given w block
given w (block_taken room) = given_taken w room
given w busy_over_step = given_hinged w busy_over_step _ (busy_hinges w) (λ h. no_rest ((fails _ (resting_test w.slot.dat)).0 h)) refl
given w (data_error_step n) =
    given_hinged w (data_error_step n) _ (error_hinges w n) (λ h. no_error ((fails _ (erring_test w.slot.dat n)).0 h)) refl
given w (level up) = given_hinged w (level up) w.slot.card (level_hinges w up) no_card refl
given w turn = given_turn w
