-- What the causes of a refusal say of the tests that the definitions make. Assumes nothing.
use Prim.Native.Nat.{ℕ, ◌*◌, ◌%◌, ◌^◌}
use native.Mathlib.Omega.{arith}
use mathlib.Core.Path.{◌≡◌, refl}
use mathlib.Core.Logic.Iff
use mathlib.Core.Logic.{◌↔◌, ◌≢◌, inl, inr, ⊎_elim}
use mathlib.Core.Bool.{Bool, true, false, cond, not, ◌&&◌, ◌||◌, true≢false, false≢true}
use lib.ListN.{length}
use lib.Dec.{eqb, ltb}
use borrow.Author.Tests.{not-true}
use Rattle.registers.specs.Place.{place_of, fits_of, edit_of, aimed, target_of}
use Rattle.registers.specs.Word.{in_use}
use Rattle.registers.specs.Block.{bus_power, bus_clock, power_on}
use Rattle.registers.specs.Bench.{quiet}
use Rattle.registers.proofs.Tests.{both, either, lacks, eq_test, lt_test, lt_fails}
use Rattle.registers.proofs.Exactly.{Legal, read_1, place_lies}
use Rattle.engine.proofs.Exactly as engine
pub use Rattle.engine.proofs.Exactly.{by_test}
use Rattle.engine.specs.declared.transfer.Dat.TheVariants as dat
use Rattle.controller.specs.Slot.{use_of}
use Rattle.controller.specs.Command.{request_of, is_abort, uses_dat}
use Rattle.controller.specs.Card.{fits_error}
use Rattle.controller.specs.Rows.{NamesNoPlace, WritesNoPlace, Crosses, Dark, Resting, Erring, runs, Responding, good, fails, Giving, gives, Taking, takes}
use Rattle.controller.specs.Steps.{World}
use Rattle.controller.specs.declared.slot.Command.TheVariants as command
use Rattle.controller.proofs.Names.{Dat, Command, Slot, Registers, Place, Target, Word, Option, Some, None}

-- ---- the accesses

-- what a place says of the access that names it, or names none
pub data Sits (offset width : ℕ) : Option Place → Type 0 where
  nowhere : NamesNoPlace offset width → Sits offset width None
  here : (NamesNoPlace offset width → ⊥) → (word : Word) → Sits offset width (Some (record { word = word; lane = offset % 4; width = width }))

-- "width not 1, 2 or 4"
illegal : (width : ℕ) → (Legal width → ⊥) ↔ ((width ≢ 1) × (width ≢ 2) × (width ≢ 4))
illegal width = (λ h. (λ e. h (inl e), λ e. h (inr (inl e)), λ e. h (inr (inr e))), λ (a, b, c). ⊎_elim a (⊎_elim b c))

-- "An access that names no place"
pub sits : (offset width : ℕ) → Sits offset width (place_of offset width)
sits offset width = go (place_of offset width) refl
  where
    go : (p : Option Place) → place_of offset width ≡ p → Sits offset width p
    go None e = nowhere (⊎_elim (λ h. inl ((illegal width).0 h)) inr ((read_1 power_on (quiet false) offset width).0 (rw e refl)))
    go (Some p) e =
        let l = place_lies offset width p.word p.lane p.width e in
        let one = read_1 power_on (quiet false) offset width in
        let named : NamesNoPlace offset width → ⊥ = λ u. let x : ◌≡◌ {A = ℕ} 0 1 = rw e at (one.1 (⊎_elim (λ h. inl ((illegal width).1 h)) inr u)) in omega arith in
        rw (← l.start, ← l.size) (here named p.word)

-- what a target says of the write that aims at it, or aims nowhere
pub data Aims (offset width value : ℕ) : Option Target → Type 0 where
  astray : WritesNoPlace offset width value → Aims offset width value None
  aims : (WritesNoPlace offset width value → ⊥) → (word : Word) → Aims offset width value (Some (record { word = word; edit = edit_of (offset % 4) width value }))

-- "value too big for the width"
pub aimed_at : (offset width value : ℕ) → Aims offset width value (target_of offset width value)
unfolding target_of
aimed_at offset width value = place (sits offset width)
  where
    fit : (word : Word) → (NamesNoPlace offset width → ⊥) → (t : Bool) → fits_of width value ≡ t
        → Aims offset width value (cond t (Some (record { word = word; edit = edit_of (offset % 4) width value })) None)
    fit word n true e = aims (⊎_elim n (λ b. let s = (lt_test value (2 ^ (8 * width))).0 e in omega arith)) word
    fit word n false e = astray (inr ((lt_fails value (2 ^ (8 * width))).0 e))

    place : {p : Option Place} → Sits offset width p → Aims offset width value (aimed value p)
    place (nowhere u) = astray (inl u)
    place (here n word) = fit word n (fits_of width value) refl

-- ---- the commands

not_test : (b : Bool) → (not b ≡ true) ↔ (b ≡ false)
not_test b = (not-true b, λ e. rw e)

-- 4: "command with data or response type 11b, not Abort, while Command Inhibit (DAT) is 1"
pub crosses_test : (s : Slot) (r : Registers)
    → ((uses_dat (request_of r) && not (is_abort (request_of r)) && in_use (use_of s.dat)) ≡ true) ↔ Crosses s r
crosses_test s r =
    let t = both _ _ (both _ _ Iff.rfl (not_test (is_abort (request_of r)))) Iff.rfl in
    (λ h. let x = t.0 h in (x.0.0, x.0.1, x.1), λ (a, b, c). t.1 ((a, b), c))

-- 5: "SD Clock Enable or SD Bus Power is 0"
pub dark_test : (r : Registers) → ((bus_clock r && bus_power r) ≡ false) ↔ Dark r
dark_test r = lacks _ _ Iff.rfl Iff.rfl

-- a test holds where what its failing says does not hold
pub holds : {P : Type 0} (a : Bool) → (a ≡ false) ↔ P → (a ≡ true) ↔ (P → ⊥)
holds true p = (λ h x. true≢false (p.1 x), λ n. refl)
holds false p = (λ h. absurd (false≢true h), λ n. absurd (n (p.0 refl)))

-- ---- the card's events

-- "Busy over: busy, response in"
abbrev pub resting : Dat → Bool
resting dat.Free = false
resting (dat.Busy answered) = answered
resting (dat.Runs t) = false
resting dat.Stuck = false
resting (dat.Halted way) = false

-- "Busy over: busy, response in", as the test says
pub resting_test : (d : Dat) → (resting d ≡ true) ↔ Resting d
resting_test d = (to d, back)
  where
    to : (d : Dat) → resting d ≡ true → Resting d
    to dat.Free e = absurd (false≢true e)
    to (dat.Busy true) e = Resting.rests
    to (dat.Busy false) e = absurd (false≢true e)
    to (dat.Runs t) e = absurd (false≢true e)
    to dat.Stuck e = absurd (false≢true e)
    to (dat.Halted way) e = absurd (false≢true e)

    back : {d : Dat} → Resting d → resting d ≡ true
    back Resting.rests = refl

-- "running transfer with response in (busy: 0 only)"; "Over 2: out of turn."
abbrev pub erring : Dat → ℕ → Bool
erring dat.Free n = false
erring (dat.Busy answered) n = answered && eqb n 0
erring (dat.Runs t) n = t.answered && ltb n 3
erring dat.Stuck n = false
erring (dat.Halted way) n = false

-- "Data error ...: running transfer with response in (busy: 0 only)", as the test says
pub erring_test : (d : Dat) (n : ℕ) → (erring d n ≡ true) ↔ Erring d n
erring_test d n = (to d, back)
  where
    rest : (answered : Bool) → (answered ≡ true) × (n ≡ 0) → Erring (dat.Busy answered) n
    rest true (a, z) = rw z Erring.rests
    rest false (a, z) = absurd (false≢true a)

    to : (d : Dat) → erring d n ≡ true → Erring d n
    to dat.Free e = absurd (false≢true e)
    to (dat.Busy answered) e = rest answered ((both _ _ Iff.rfl (eq_test n 0)).0 e)
    to (dat.Runs t) e = let x = (both t.answered (ltb n 3) Iff.rfl (lt_test n 3)).0 e in runs {n = n} x.0 (omega arith)
    to dat.Stuck e = absurd (false≢true e)
    to (dat.Halted way) e = absurd (false≢true e)

    back : {d : Dat} {n : ℕ} → Erring d n → erring d n ≡ true
    back (runs {n} a l) = (both _ _ Iff.rfl (lt_test n 3)).1 (a, omega arith)
    back Erring.rests = refl

-- "Response, to a waiting command: 0 good", or an error that fits
abbrev pub responding : Command → ℕ → Bool
responding command.Idle n = false
responding (command.Waits v) n = eqb n 0 || fits_error v n
responding command.Halted n = false

-- "Out of turn: errors for type 00b, 2 or 4 with that check off, numbers over 4", as the test says
pub responding_test : (s : Slot) (n : ℕ) → (responding s.command n ≡ true) ↔ Responding s n
responding_test s n = (to s.command refl, back)
  where
    to : (c : Command) → s.command ≡ c → responding c n ≡ true → Responding s n
    to command.Idle e h = absurd (false≢true h)
    to (command.Waits v) e h = ⊎_elim (λ z. rw z (good e)) (λ f. fails e f) ((either _ _ (eq_test n 0) Iff.rfl).0 h)
    to command.Halted e h = absurd (false≢true h)

    back : {s : Slot} {n : ℕ} → Responding s n → responding s.command n ≡ true
    back (good e) = rw e refl
    back (fails {v} {n} e f) = rw e ((either _ _ (eq_test n 0) Iff.rfl).1 (inr f))

-- ---- the blocks

-- "running read, its response in, buffer empty, blocks left", as the engine says it
pub giving : (w : World) → Giving w ↔ ((size : ℕ) × engine.Gives (length w.buffer) w.slot.dat size)
giving w = (to, λ (size, g). back refl g)
  where
    to : Giving w → (size : ℕ) × engine.Gives (length w.buffer) w.slot.dat size
    to (gives {t} e m) = (_, rw (← e) at (engine.may_give_lem t (length w.buffer) m))

    back : {d : Dat} {size : ℕ} → w.slot.dat ≡ d → engine.Gives (length w.buffer) d size → Giving w
    back e (engine.gives way a h l) = gives e (engine.gives_may (engine.gives way a h l))

-- "running write, buffer full", as the engine says it
pub taking : (w : World) → Taking w ↔ ((size : ℕ) × engine.Takes (length w.buffer) w.slot.dat size)
taking w = (to, λ (size, g). back refl g)
  where
    to : Taking w → (size : ℕ) × engine.Takes (length w.buffer) w.slot.dat size
    to (takes {t} e m) = (_, rw (← e) at (engine.may_take_lem t (length w.buffer) m))

    back : {d : Dat} {size : ℕ} → w.slot.dat ≡ d → engine.Takes (length w.buffer) d size → Taking w
    back e (engine.takes way h) = takes e (engine.takes_may (engine.takes way h))
