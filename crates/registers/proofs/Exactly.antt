-- Each number of this crate is given exactly when the paper's table says, in offsets and widths; a refused write changes nothing. Assumes nothing.
use Prim.Native.Nat.{ℕ, ◌+◌, ◌*◌, ◌/◌, ◌%◌, ◌^◌, ◌≤◌, ◌<◌}
use native.Mathlib.Omega.{arith}
use mathlib.Core.Path.{◌≡◌, refl, sym, ◌∙◌, ap}
use mathlib.Core.Logic.Iff
use mathlib.Core.Logic.{◌↔◌, ◌≢◌, ◌⊎◌}
use mathlib.Core.Bool.{Bool, true, false, cond, ◌&&◌, true≢false, false≢true}
use lib.Dec.{eqb, leb}
use Rattle.terms.specs.Answers.{number_of, value_of}
use Rattle.std.specs.Prelude.{Option, Some, None, Ok, Err}
use Rattle.terms.specs.declared.Refusal.TheVariants.{NoPlace, DatInhibited}
use Rattle.registers.specs.Place.{Place, legal, limit, word_at, place_of, fits_of, edit_of, aimed, target_of, touches, guarded}
use Rattle.registers.specs.Word.{in_use, inhibits}
use Rattle.registers.specs.Access.{take_of, read_at, read_of, Written, written_as, write_at, write_of}
use Rattle.registers.specs.declared.place.Word.{Word}
use Rattle.registers.specs.declared.place.Target.{Target}
use Rattle.registers.specs.declared.word.Facts.{Facts}
use Rattle.registers.specs.declared.block.Registers.{Registers}
use Rattle.registers.proofs.Tests.{eq_test, eq_fails, le_test, le_fails, lt_test, lt_fails, by_test, both, either, lacks, fails}
use Rattle.registers.proofs.Lanes.{Width, legal_exactly, spans}

-- ---- the causes

-- "width ... 1, 2 or 4"
abbrev pub Legal : ℕ → Type 0
Legal width = Width width

-- an access that names a place
abbrev pub Named : ℕ → ℕ → Type 0
Named offset width = Legal width × ((offset % width ≡ 0) × (offset + width ≤ limit))

-- 1: "width not 1, 2 or 4; offset not a multiple of the width; offset + width over 256"
abbrev pub NamesNoPlace : ℕ → ℕ → Type 0
NamesNoPlace offset width = (Legal width → ⊥) ⊎ ((offset % width ≢ 0) ⊎ (limit < offset + width))

-- "wholly inside 004h-007h or 00Ch-00Dh"
abbrev pub Guarded : ℕ → ℕ → Type 0
Guarded offset width = ((0x004 ≤ offset) × (offset + width ≤ 0x008)) ⊎ ((0x00C ≤ offset) × (offset + width ≤ 0x00E))

-- `Named` as a test
abbrev named : ℕ → ℕ → Bool
named offset width = legal width && (eqb (offset % width) 0 && leb (offset + width) limit)

named_exactly : (offset width : ℕ) → (named offset width ≡ true) ↔ Named offset width
named_exactly offset width =
    both _ _ (legal_exactly width) (both _ _ (eq_test (offset % width) 0) (le_test (offset + width) limit))

unnamed_exactly : (offset width : ℕ) → (named offset width ≡ false) ↔ NamesNoPlace offset width
unnamed_exactly offset width =
    lacks _ _ (fails _ (legal_exactly width)) (lacks _ _ (eq_fails (offset % width) 0) (le_fails (offset + width) limit))

-- "wholly inside 004h-007h or 00Ch-00Dh"
pub guarded_exactly : (offset width : ℕ) → (guarded offset width ≡ true) ↔ Guarded offset width
unfolding guarded
guarded_exactly offset width =
    either _ _ (both _ _ (le_test 0x004 offset) (le_test (offset + width) 0x008)) (both _ _ (le_test 0x00C offset) (le_test (offset + width) 0x00E))

-- is a byte one of an access? "Byte 00Fh issues", 02Fh resets
pub touches_exactly : (byte offset width : ℕ) → (touches byte offset width ≡ true) ↔ ((offset ≤ byte) × (byte < offset + width))
touches_exactly byte offset width = both _ _ (le_test offset byte) (lt_test byte (offset + width))

-- and is it none?
pub misses_exactly : (byte offset width : ℕ) → (touches byte offset width ≡ false) ↔ ((byte < offset) ⊎ (offset + width ≤ byte))
misses_exactly byte offset width = lacks _ _ (le_fails offset byte) (lt_fails byte (offset + width))

-- ---- the place

-- the place, if one is named
abbrev spot : ℕ → ℕ → Place
spot offset width = record { word = word_at (offset / 4 * 4); lane = offset % 4; width = width }

abbrev here : ℕ → ℕ → Option Place
here offset width = Some (spot offset width)

place_named : (offset width : ℕ) → place_of offset width ≡ cond (named offset width) (here offset width) None
unfolding place_of
place_named offset width = go (legal width) (eqb (offset % width) 0) (leb (offset + width) limit)
  where
    go : (a b c : Bool) → cond a (cond b (cond c (here offset width) None) None) None ≡ cond (a && (b && c)) (here offset width) None
    go true true c = refl
    go true false c = refl
    go false b c = refl

-- an access that names a place has one
pub place_here : (offset width : ℕ) → Named offset width → place_of offset width ≡ here offset width
place_here offset width h = rw (place_named offset width, (named_exactly offset width).1 h)

-- what a place says of the access that names it
pub record Lies (offset width : ℕ) (w : Word) (lane n : ℕ) : Type 0 where
  pub access : Named offset width
  pub word : word_at (offset / 4 * 4) ≡ w
  pub start : offset % 4 ≡ lane
  pub size : width ≡ n

-- read off the place
pub place_lies : (offset width : ℕ) (w : Word) (lane n : ℕ) → place_of offset width ≡ Some (record { word = w; lane = lane; width = n })
    → Lies offset width w lane n
place_lies offset width w lane n h = go (named offset width) refl (sym (place_named offset width) ∙ h)
  where
    go : (t : Bool) → named offset width ≡ t → cond t (here offset width) None ≡ Some (record { word = w; lane = lane; width = n })
        → Lies offset width w lane n
    go true e g =
        let same : spot offset width ≡ record { word = w; lane = lane; width = n } = cc in
        record {
          access = (named_exactly offset width).0 e;
          word = ap (λ (p : Place). p.word) same;
          start = ap (λ (p : Place). p.lane) same;
          size = ap (λ (p : Place). p.width) same;
        }
    go false e g = cc

-- the bytes of a place are bytes of its word
abbrev pub Spans : Option Place → Type 0
Spans None = Unit
Spans (Some p) = (0 < p.width) × (p.lane + p.width ≤ 4)

-- as no aligned access reaches into the next word
pub place_spans : (offset width : ℕ) → Spans (place_of offset width)
place_spans offset width = go (place_of offset width) refl
  where
    go : (p : Option Place) → place_of offset width ≡ p → Spans p
    go None e = tt
    go (Some p) e =
        let at = place_lies offset width p.word p.lane p.width e in
        rw (← at.start, ← at.size) (spans offset width at.access.0 at.access.1.0)

-- a byte of an access lies in the word that it goes to
pub word_touched : (offset width byte : ℕ) (w : Word) (lane n : ℕ) → place_of offset width ≡ Some (record { word = w; lane = lane; width = n })
    → touches byte offset width ≡ true → w ≡ word_at (byte / 4 * 4)
word_touched offset width byte w lane n e t =
    let at = place_lies offset width w lane n e in
    let s = spans offset width at.access.0 at.access.1.0 in
    let b = (touches_exactly byte offset width).0 t in
    let same : offset / 4 * 4 ≡ byte / 4 * 4 = omega arith in
    rw same at (sym at.word)

-- ---- the answers

-- neither holds, or both
neither : {A B : Type 0} → (A → ⊥) → (B → ⊥) → A ↔ B
neither f g = (λ a. absurd (f a), λ b. absurd (g b))

together : {A B : Type 0} → A → B → A ↔ B
together a b = (λ _. b, λ _. a)

-- row 1 of a read: "width not 1, 2 or 4; offset not a multiple of the width; offset + width over 256"
pub read_1 : (r : Registers) (f : Facts) (offset width : ℕ) → (number_of (read_of r f offset width) ≡ 1) ↔ NamesNoPlace offset width
read_1 r f offset width = rw (place_named offset width) (Iff.trans (go (named offset width)) (unnamed_exactly offset width))
  where
    go : (t : Bool) → (number_of (read_at (cond t (here offset width) None) f r) ≡ 1) ↔ (t ≡ false)
    go true = neither (λ e. omega arith) true≢false
    go false = together refl refl

-- ---- a write

-- an access that names a place, with a value that fits it
abbrev pub Aimed : ℕ → ℕ → ℕ → Type 0
Aimed offset width value = Named offset width × (value < 2 ^ (8 * width))

-- 1, all of it: with "value too big for the width"
abbrev pub WritesNoPlace : ℕ → ℕ → ℕ → Type 0
WritesNoPlace offset width value = NamesNoPlace offset width ⊎ (2 ^ (8 * width) ≤ value)

-- 2: "write wholly inside 004h-007h or 00Ch-00Dh while Command Inhibit (DAT) is 1"
abbrev pub Inhibited : Facts → ℕ → ℕ → Type 0
Inhibited f offset width = (in_use f.dat ≡ true) × Guarded offset width

module _ (r : Registers) (f : Facts) (offset width value : ℕ) where
  abbrev found : Bool
  found = named offset width && fits_of width value

  abbrev held : Bool
  held = inhibits f.dat offset width

  -- the block after a write that is done
  abbrev pub done : Registers
  done = take_of (word_at (offset / 4 * 4)) (edit_of (offset % 4) width value) f r

  abbrev outcome : Bool → Bool → Written
  outcome s t = cond s (cond t (written_as (Err DatInhibited) r) (written_as (Ok 0) done)) (written_as (Err NoPlace) r)

  write_outcome : write_of r f offset width value ≡ outcome found held
  unfolding target_of
  write_outcome = rw (place_named offset width) (place (named offset width))
    where
      place : (s : Bool) → write_at (aimed value (cond s (here offset width) None)) held f r ≡ outcome (s && fits_of width value) held
      place true = by_test (λ (x : Option Target). write_at x held f r ≡ outcome (fits_of width value) held) (fits_of width value) (λ e. rw e) (λ e. rw e)
      place false = refl

  -- the number says which
  numbers : (s t : Bool) → let n = number_of (outcome s t).answer in
      ((n ≡ 0) ↔ ((s ≡ true) × (t ≡ false))) × ((n ≡ 1) ↔ (s ≡ false)) × ((n ≡ 2) ↔ ((s ≡ true) × (t ≡ true)))
  numbers true true = (neither (λ e. omega arith) (λ h. true≢false h.1), neither (λ e. omega arith) true≢false, together refl (refl, refl))
  numbers true false = (together refl (refl, refl), neither (λ e. omega arith) true≢false, neither (λ e. omega arith) (λ h. false≢true h.1))
  numbers false t = (neither (λ e. omega arith) (λ h. false≢true h.0), together refl refl, neither (λ e. omega arith) (λ h. false≢true h.0))

  aimed_exactly : (found ≡ true) ↔ Aimed offset width value
  aimed_exactly = both _ _ (named_exactly offset width) (lt_test value (2 ^ (8 * width)))

  inhibited_exactly : (held ≡ true) ↔ Inhibited f offset width
  inhibited_exactly = both _ _ Iff.rfl (guarded_exactly offset width)

  -- row 1 of a write: as of a read, and "value too big for the width"
  pub write_1 : (number_of (write_of r f offset width value).answer ≡ 1) ↔ WritesNoPlace offset width value
  write_1 = rw write_outcome (Iff.trans (numbers found held).1 (lacks _ _ (unnamed_exactly offset width) (lt_fails value (2 ^ (8 * width)))))

  -- row 2, "1 first": none of the causes of 1, and those of 2
  pub write_2 : (number_of (write_of r f offset width value).answer ≡ 2) ↔ (Aimed offset width value × Inhibited f offset width)
  write_2 = rw write_outcome (Iff.trans (numbers found held).2 (Iff.and aimed_exactly inhibited_exactly))

  -- row 0: every other write is done
  pub write_0 : (number_of (write_of r f offset width value).answer ≡ 0) ↔ (Aimed offset width value × (Inhibited f offset width → ⊥))
  write_0 = rw write_outcome (Iff.trans (numbers found held).0 (Iff.and aimed_exactly (fails _ inhibited_exactly)))

  -- the block after it: "write wholly inside ... while Command Inhibit (DAT) is 1" changes nothing
  pub write_block : Aimed offset width value → (write_of r f offset width value).registers ≡ cond (inhibits f.dat offset width) r done
  write_block a = rw (write_outcome, aimed_exactly.1 a) (go held)
    where
      go : (t : Bool) → (outcome true t).registers ≡ cond t r done
      go true = refl
      go false = refl

  -- "All but 0 have value 0 ... and change nothing."
  pub write_refused : number_of (write_of r f offset width value).answer ≢ 0
      → (value_of (write_of r f offset width value).answer ≡ 0) × ((write_of r f offset width value).registers ≡ r)
  write_refused = rw write_outcome (go found held)
    where
      go : (s t : Bool) → number_of (outcome s t).answer ≢ 0 → (value_of (outcome s t).answer ≡ 0) × ((outcome s t).registers ≡ r)
      go true true h = (refl, refl)
      go true false h = absurd (h refl)
      go false t h = (refl, refl)
