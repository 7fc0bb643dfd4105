-- A run goes on: a step uses up no more of the card's bytes than there are, a step has one short line, and a step and then the rest are all the
-- steps (`rode_on`). Assumes nothing.
use Prim.Native.Nat.{ℕ, suc, min, ◌+◌, ◌*◌, ◌-◌, ◌<◌, ◌≤◌}
use native.Mathlib.Omega.{arith}
use native.Mathlib.Nat.{add-zero}
use mathlib.Core.Path.{◌≡◌, refl, sym, ◌∙◌}
use mathlib.Core.Bool.{Bool, true, false, cond}
use mathlib.Core.List.{List, [], ◌++◌, append-nil}
use lib.ListN.{length, take, drop, length-take, length-drop, length-append, drop_of_length-le}
use lib.Seq.{paste-zero, take-length}
use lib.Dec.{eqb}
use Rattle.registers.specs.Block.{block_size}
use Rattle.terms.specs.Answers.{number_of}
use Rattle.terms.specs.Answers.{Answer}
use Rattle.std.specs.Prelude.{Ok, Err}
use Rattle.terms.specs.declared.Refusal.TheVariants.{NoPlace, DatInhibited, CommandInhibited, DatInUse, Unpowered, NotCarried, OutOfTurn, WrongLength, NotYet, NoTransfer, MemoryTooLarge, LimitTooHigh, LineRefused}
use Rattle.runfile.specs.declared.file.Step.{Step}
use Rattle.runfile.specs.declared.file.Layout.{Layout}
use Rattle.runfile.specs.File.{step_size, steps_base, step_at}
use Rattle.runfile.specs.Text.{head_text, line_text, put_of}
use Rattle.runfile.specs.Run.{RunWorld, StepDone, give_of, rode_of, rode_text, rides_of, rode_all, start_of, card_of, all_of, good_run}
use Rattle.runfile.proofs.Puts.{put_then, decimal_short, rest_long}

offered_fit : (a : Bool) (used count size : ℕ) → used ≤ count → cond a (used + min size (count - used)) used ≤ count
offered_fit true used count size h = omega arith
offered_fit false used count size h = h

-- the card's bytes that are used up stay within their count
pub used_within : (card : List ℕ) (s : Step) (r : RunWorld) → r.state.used ≤ length card → (rode_of card s r).1.state.used ≤ length card
unfolding rode_of
used_within card s r h =
    let a = (give_of card r.state r.buffer).0.answer in
    go (eqb s.kind 5) (eqb s.kind 6) (eqb s.kind 10) _ _ _ _
    (offered_fit (eqb (number_of a) 0) r.state.used (length card) (block_size r.state.slot.registers) h) h h h
  where
    go : (a b d : Bool) (w x y z : StepDone × RunWorld)
        → w.1.state.used ≤ length card → x.1.state.used ≤ length card → y.1.state.used ≤ length card → z.1.state.used ≤ length card
        → (cond a w (cond b x (cond d y z))).1.state.used ≤ length card
    go true b d w x y z i j k l = i
    go false true d w x y z i j k l = j
    go false false true w x y z i j k l = k
    go false false false w x y z i j k l = l

-- a line has up to 19 bytes
pub line_short : (number answer value : ℕ) (line : Bool) → length (line_text number answer value line) ≤ 19
unfolding line_text
line_short number answer value line =
    simp length-append (omega (arith, decimal_short number, decimal_short answer, rest_long value line))

-- a step, its line, and the rest
pub rode_on : (file card : List ℕ) (base m n i : ℕ) (r s : RunWorld) (q : StepDone) (out one : List ℕ) (at next : ℕ) → n ≡ suc m
    → (q, s) ≡ rode_of card (step_at file (base + step_size * i)) r
    → (next, one) ≡ put_of out at (rode_text i q)
    → rode_all file card base m (i + 1) s one next ≡ rode_all file card base n i r out at
unfolding rides_of
rode_on file card base m n i r s q out one at next k p w =
    let l = rides_of file card base m (i + 1) s in
    rw k
    ((λ j. (put_then out one (put_of one next l.0).1 at next _ (rode_text i q) l.0 w refl j, l.1))
    ∙ (λ j. (put_of out at (rode_text i (p j).0 ++ (rides_of file card base m (i + 1) (p j).1).0), (rides_of file card base m (i + 1) (p j).1).1)))

-- and no step is none
pub rode_none : (file card : List ℕ) (base n i : ℕ) (r : RunWorld) (out : List ℕ) (at : ℕ) → n ≡ 0
    → ◌≡◌ {A = (ℕ × List ℕ) × RunWorld} ((at, out), r) (rode_all file card base n i r out at)
unfolding rides_of
rode_none file card base n i r out at e = rw e (λ j. ((sym (add-zero at) j, paste-zero out at [] j), r))

-- no answer has a number of four digits
pub number_short : (a : Answer) → number_of a < 1000
number_short (Ok v) = omega arith
number_short (Err NoPlace) = omega arith
number_short (Err DatInhibited) = omega arith
number_short (Err CommandInhibited) = omega arith
number_short (Err DatInUse) = omega arith
number_short (Err Unpowered) = omega arith
number_short (Err NotCarried) = omega arith
number_short (Err OutOfTurn) = omega arith
number_short (Err WrongLength) = omega arith
number_short (Err NotYet) = omega arith
number_short (Err NoTransfer) = omega arith
number_short (Err MemoryTooLarge) = omega arith
number_short (Err LimitTooHigh) = omega arith
number_short (Err LineRefused) = omega arith

-- the head has up to 10 bytes
pub head_short : (n : ℕ) → length (head_text n) ≤ 10
head_short n = simp length-append (omega (arith, decimal_short n))

-- the memory of the file, copied over a space of its length
pub copied : (file mem : List ℕ) (memory m : ℕ) → m ≡ memory → 4 + memory ≤ length file → length mem ≡ memory
    → take (length (take m (drop 4 file))) (take m (drop 4 file)) ++ drop (length (take m (drop 4 file))) mem ≡ take memory (drop 4 file)
copied file mem memory m e k h =
    let n : length (take memory (drop 4 file)) ≡ memory = simp (length-take, length-drop) (omega arith) in
    rw (e, take-length (take memory (drop 4 file)), n, drop_of_length-le mem {i = memory} (omega arith), append-nil)

-- the head, and then all the steps
pub head_on : (file : List ℕ) (l : Layout) (r : RunWorld) (buffer room out one : List ℕ) (head : ℕ) (e : (ℕ × List ℕ) × RunWorld)
    → (head, one) ≡ put_of out 0 (head_text l.steps)
    → r ≡ start_of file l.memory buffer room
    → e ≡ rode_all file (card_of file l) (steps_base l.memory) l.steps 0 r one head
    → ◌≡◌ {A = (ℕ × List ℕ) × (List ℕ × List ℕ × List ℕ)} (e.0, (e.1.memory, e.1.buffer, e.1.room)) (good_run file l buffer room out)
head_on file l r buffer room out one head e w o z =
    let q = all_of file l buffer room in
    let y = rw o at z in
    (λ j. ((y j).0, ((y j).1.memory, (y j).1.buffer, (y j).1.room)))
    ∙ (λ j. (put_then out one (put_of one head q.0).1 0 head _ (head_text l.steps) q.0 w refl j, (q.1.memory, q.1.buffer, q.1.room)))
