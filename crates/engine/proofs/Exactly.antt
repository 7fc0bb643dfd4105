-- The numbers of a turn, of a block given and of a block taken, each exactly when. Assumes nothing.
use Prim.Native.Nat.{ℕ, ◌≤◌, ◌<◌}
use native.Mathlib.Omega.{arith}
use mathlib.Core.Path.{◌≡◌, refl, sym, ◌∙◌}
use mathlib.Core.Logic.{◌↔◌, ◌⊎◌, inl, inr, ◌≢◌}
use mathlib.Core.List.{List}
use mathlib.Core.Bool.{Bool, true, false, cond, ◌&&◌, false≢true}
use lib.ListN.{length}
use lib.Dec.{eqb, ltb}
use borrow.Author.Tests.{ltb-true, ltb-false, eqb-true, eqb-false, lt-ltb, eq-eqb}
use Rattle.terms.specs.Counts.{bytes, less, least}
use Rattle.terms.specs.Answers.{number_of}
use Rattle.table.specs.Memory.{memory_limit, too_large, in_memory}
use Rattle.table.specs.Fetch.{fetch_of}
use Rattle.table.specs.declared.fetch.Failure.TheVariants as failure
use Rattle.engine.specs.Transfer.{runs_of}
use Rattle.engine.specs.Buffer.{block_of, held_of, ready_of}
use Rattle.engine.specs.Turn.{refused_as, turned_as, seen_table, seen_int, seen_next, onward_of, done_int, carry_of, moving_of, answered_of, running_of, staged_of, turn_of, hand_after}
use Rattle.engine.specs.Block.{kept_as, reads_of, writes_of, may_give, gave_of, give_of, given_of, may_take, took_of, take_of, taken_of}
use Rattle.engine.proofs.Names.{ByteCount, NotYet, NoTransfer, OutOfTurn, WrongLength, MemoryTooLarge, Way, Read, Write, Stage, Fetching, Moving, Hand, Err}
use Rattle.engine.proofs.Names.{Stopped, Transfer, Dat, Free, Busy, Runs, Stuck, Halted, Next, Fail, Turned, Passed}

-- ---- what all rows use

-- a test decides
pub by_test : {A : Type 0} (P : A → Type 0) (b : Bool) {y n : A} → (b ≡ true → P y) → (b ≡ false → P n) → P (cond b y n)
by_test P true f g = f refl
by_test P false f g = g refl

-- the row that holds, and a row that does not
this : {m n : ℕ} {A : Type 0} → m ≡ n → A → (m ≡ n) ↔ A
this e a = (λ f. a, λ b. e)

other : {m n : ℕ} {A : Type 0} → m ≢ n → (A → ⊥) → (m ≡ n) ↔ A
other d h = (λ e. absurd (d e), λ a. absurd (h a))

clash : ◌≡◌ {A = ℕ} 0 1 → ⊥
clash e = omega arith

-- ---- a turn

-- 10: "no transfer, a halted one, or engine stopped"
pub data Idling : Dat → Type 0 where
  free : Idling Free
  busy : {answered : Bool} → Idling (Busy answered)
  stopped : {t : Transfer} → t.stage ≡ Stopped → Idling (Runs t)
  stuck : Idling Stuck
  halted : {way : Way} → Idling (Halted way)

-- 9: "its response awaited, or a move due with the buffer full (write) or empty (read)"
pub data Premature (room : ℕ) : Dat → Type 0 where
  awaits : {t : Transfer} → t.stage ≢ Stopped → t.answered ≡ false → Premature room (Runs t)
  no_bytes : {t : Transfer} {hand : Hand} → t.stage ≡ Moving hand
      → (ready_of t.way t.size room t.held).0 ≡ 0 → Premature room (Runs t)

-- 058h after a turn that is done: as it was, or as a fetch leaves it
pub data Reaches (table : ℕ) (mem : List ℕ) : ℕ → Type 0 where
  stays : Reaches table mem table
  fetched : length mem ≤ memory_limit → (owed : ByteCount) → Reaches table mem (seen_table (fetch_of mem table owed))

-- what becomes of a turn: "11, then 10, then 9", or a running transfer does it
pub data Turns (d : Dat) (table : ℕ) (x mem : List ℕ) : Turned × List ℕ × List ℕ → Type 0 where
  large : memory_limit < length mem → Turns d table x mem (refused_as d table (Err MemoryTooLarge), x, mem)
  idle : length mem ≤ memory_limit → Idling d → Turns d table x mem (refused_as d table (Err NoTransfer), x, mem)
  early : length mem ≤ memory_limit → Premature (length x) d → Turns d table x mem (refused_as d table (Err NotYet), x, mem)
  done : {t : Transfer} {reached : ℕ} → length mem ≤ memory_limit → (Idling d → ⊥) → (Premature (length x) d → ⊥) → d ≡ Runs t → Reaches table mem reached
      → (owed held count : ByteCount) (int : Bool) (next : Next) (y m : List ℕ) → Turns d table x mem (turned_as t owed held count reached int next, y, m)

stop : {t : Transfer} → Idling (Runs t) → t.stage ≡ Stopped
stop (stopped e) = e

apart : {room : ℕ} {d : Dat} → Premature room d → Idling d → ⊥
apart (awaits h a) i = h (stop i)
apart (no_bytes m z) i = let s = stop i in clash (cc)

-- the response is in, and no move is due or it finds bytes
in_time : {room : ℕ} {t : Transfer} → t.answered ≡ true → (t.stage ≡ Fetching) ⊎ ((ready_of t.way t.size room t.held).0 ≢ 0)
    → Premature room (Runs t) → ⊥
in_time a o (awaits h f) = clash (cc)
in_time a (inl s) (no_bytes m z) = clash (cc)
in_time a (inr n) (no_bytes m z) = n z

module _ (table : ℕ) (x mem : List ℕ) (small : length mem ≤ memory_limit) where
  module _ (t : Transfer) (on : t.stage ≢ Stopped) where
    answered : (a : Bool) {r : Turned × List ℕ × List ℕ} → t.answered ≡ a → (t.answered ≡ true → Turns (Runs t) table x mem r)
        → Turns (Runs t) table x mem (answered_of a t table x mem r)
    answered true e f = f e
    answered false e f = early small (awaits on e)

    goes : {reached : ℕ} → t.answered ≡ true → (t.stage ≡ Fetching) ⊎ ((ready_of t.way t.size (length x) t.held).0 ≢ 0)
        → Reaches table mem reached → (owed held count : ByteCount) (int : Bool) (next : Next) (y m : List ℕ)
        → Turns (Runs t) table x mem (turned_as t owed held count reached int next, y, m)
    goes a o r = done small (λ i. on (stop i)) (in_time a o) refl r

    moving : {hand : Hand} → t.stage ≡ Moving hand → t.answered ≡ true
        → Turns (Runs t) table x mem (moving_of t table hand x mem)
    unfolding moving_of
    moving {hand} e a =
        let P = Turns (Runs t) table x mem in
        let ready = ready_of t.way t.size (length x) t.held in
        let count = least hand.rest ready in
        let owed = less t.owed count in
        let still = hand_after hand count in
        let c = carry_of t.way t x mem hand.at count in
        by_test P (eqb ready.0 0) (λ z. early small (no_bytes e (eqb-true _ _ z)))
        (λ z. by_test P (in_memory (length mem) hand.at count.0)
        (λ m. goes a (inr (eqb-false _ _ z)) stays owed c.0 count (done_int still.rest still.int)
        (onward_of still owed t.left c.0) c.1 c.2)
        (λ m. goes a (inr (eqb-false _ _ z)) stays t.owed t.held (bytes 0) false (Fail failure.Beyond) x mem))

  running : (t : Transfer) (s : Stage) → t.stage ≡ s → Turns (Runs t) table x mem (running_of s t table x mem)
  unfolding running_of
  running t Stopped e = idle small (stopped e)
  running t Fetching e =
      let on : t.stage ≢ Stopped = λ s. clash (cc) in
      let f = fetch_of mem table t.owed in
      let next = seen_next f t.owed t.left (held_of t.size (length x) t.held) in
      answered t on t.answered refl (λ a. goes t on a (inl e) (fetched small t.owed) t.owed t.held (bytes 0) (seen_int f) next x mem)
  running t (Moving hand) e = let on : t.stage ≢ Stopped = λ s. clash (cc) in answered t on t.answered refl (moving t on e)

  staged : (d : Dat) → Turns d table x mem (staged_of d table x mem)
  unfolding staged_of
  staged Free = idle small free
  staged (Busy answered) = idle small busy
  staged (Runs t) = running t t.stage refl
  staged Stuck = idle small stuck
  staged (Halted way) = idle small halted

module _ (d : Dat) (table : ℕ) (x mem : List ℕ) where
  -- every turn is one of these
  pub turn_case : Turns d table x mem (turn_of d table x mem)
  turn_case = by_test (Turns d table x mem) (too_large mem) (λ e. large (ltb-true _ _ e)) (λ e. staged table x mem (ltb-false _ _ e) d)

  -- its numbers, each exactly when
  turn_rows : {r : Turned × List ℕ × List ℕ} → Turns d table x mem r
      → ((number_of r.0.answer ≡ 11) ↔ (memory_limit < length mem))
      × ((number_of r.0.answer ≡ 10) ↔ ((length mem ≤ memory_limit) × Idling d))
      × ((number_of r.0.answer ≡ 9) ↔ ((length mem ≤ memory_limit) × Premature (length x) d))
      × ((number_of r.0.answer ≡ 0) ↔ ((length mem ≤ memory_limit) × (Idling d → ⊥) × (Premature (length x) d → ⊥)))
  turn_rows (large m) = (this refl m, other (omega arith) (omega arith), other (omega arith) (omega arith), other (omega arith) (omega arith))
  turn_rows (idle s i) = (omega arith, this refl (s, i), other (omega arith) (λ h. apart h.1 i), other (omega arith) (λ h. h.1 i))
  turn_rows (early s p) = (omega arith, other (omega arith) (λ h. apart p h.1), this refl (s, p), other (omega arith) (λ h. h.2 p))
  turn_rows (done s i p e r owed held count int next y m) = (omega arith, other (omega arith) (λ h. i h.1), other (omega arith) (λ h. p h.1), this refl (s, i, p))

  -- 11: "turn ...: lent memory over 16,777,216 bytes"
  pub turn_11 : (number_of (turn_of d table x mem).0.answer ≡ 11) ↔ (memory_limit < length mem)
  turn_11 = (turn_rows turn_case).0

  -- 10: "turn: no transfer, a halted one, or engine stopped", after 11
  pub turn_10 : (number_of (turn_of d table x mem).0.answer ≡ 10) ↔ ((length mem ≤ memory_limit) × Idling d)
  turn_10 = (turn_rows turn_case).1

  -- 9: "turn: its response awaited, or a move due with the buffer full (write) or empty (read)", after 11 and 10
  pub turn_9 : (number_of (turn_of d table x mem).0.answer ≡ 9) ↔ ((length mem ≤ memory_limit) × Premature (length x) d)
  turn_9 = (turn_rows turn_case).2

  -- 0: "done"
  pub turn_0 : (number_of (turn_of d table x mem).0.answer ≡ 0) ↔ ((length mem ≤ memory_limit) × (Idling d → ⊥) × (Premature (length x) d → ⊥))
  turn_0 = (turn_rows turn_case).3

-- ---- a block event

-- what becomes of one that is due for a block of some size, and of the bytes that a refusal leaves: "7 before 8"
pub data Passes (Due Wrong Right : ℕ → Type 0) (did : Transfer → Passed × List ℕ) (d : Dat) (room : List ℕ) : Passed × List ℕ → Type 0 where
  out : ((size : ℕ) → Due size → ⊥) → Passes Due Wrong Right did d room (kept_as d (Err OutOfTurn), room)
  wrong : {size : ℕ} → Due size → Wrong size → Passes Due Wrong Right did d room (kept_as d (Err WrongLength), room)
  passed : {t : Transfer} {size : ℕ} → d ≡ Runs t → Due size → Right size → Passes Due Wrong Right did d room (did t)

-- its numbers, each exactly when, if no block is wrong and right
block_rows : {Due Wrong Right : ℕ → Type 0} {did : Transfer → Passed × List ℕ} {d : Dat} {room : List ℕ} {r : Passed × List ℕ}
    → ((t : Transfer) → number_of (did t).0.answer ≡ 0) → ((m n : ℕ) → Due m → Due n → Wrong m → Right n → ⊥) → Passes Due Wrong Right did d room r
    → ((number_of r.0.answer ≡ 7) ↔ ((size : ℕ) → Due size → ⊥))
    × ((number_of r.0.answer ≡ 8) ↔ ((size : ℕ) × Due size × Wrong size))
    × ((number_of r.0.answer ≡ 0) ↔ ((size : ℕ) × Due size × Right size))
block_rows z un (out h) = (this refl h, other (omega arith) (λ p. h p.0 p.1), other (omega arith) (λ p. h p.0 p.1))
block_rows z un (wrong {size} d w) = (other (omega arith) (λ h. h size d), this refl (size, d, w), other (omega arith) (λ p. un size p.0 d p.1 w p.2))
block_rows z un (passed {t} {size} e d r) =
    let y = z t in
    (other (omega arith) (λ h. h size d), other (omega arith) (λ p. un p.0 size p.1 d p.2 r), this y (size, d, r))

-- what a test of two says
pub both : (a b : Bool) → (a && b) ≡ true → (a ≡ true) × (b ≡ true)
both true b e = (refl, e)
both false b e = absurd (false≢true e)

-- ---- a block given

-- "running read, its response in, buffer empty, blocks left", and the block size
pub data Gives (room : ℕ) : Dat → ℕ → Type 0 where
  gives : {t : Transfer} → t.way ≡ Read → t.answered ≡ true → (held_of t.size room t.held).0 ≡ 0 → 0 < t.left.0
      → Gives room (Runs t) (block_of t.size room).0

gives_runs : {room size : ℕ} {d : Dat} → Gives room d size → false ≡ runs_of d → ⊥
gives_runs (gives w a h l) e = false≢true e

gives_one : {room k : ℕ} {d : Dat} (m n : ℕ) → Gives room d m → Gives room d n → k ≢ m → k ≡ n → ⊥
gives_one m n (gives w a h l) (gives v b i k) d e = d e

reads : (w : Way) → reads_of w ≡ true → w ≡ Read
reads Read e = refl
reads Write e = absurd (false≢true e)

pub gives_may : {room : ℕ} {t : Transfer} {size : ℕ} → Gives room (Runs t) size → may_give t room ≡ true
unfolding may_give
gives_may (gives w a h l) = simp (w, a, eq-eqb _ _ h, lt-ltb _ _ l)

pub may_give_lem : (t : Transfer) (room : ℕ) → may_give t room ≡ true → Gives room (Runs t) (block_of t.size room).0
unfolding may_give
may_give_lem t room e =
    let p = both _ _ e in
    let q = both _ _ p.1 in
    let r = both _ _ q.1 in
    gives (reads _ p.0) q.0 (eqb-true _ _ r.0) (ltb-true _ _ r.1)

-- what becomes of a block given
abbrev pub Given : Dat → List ℕ → List ℕ → Passed × List ℕ → Type 0
Given d x block = Passes (Gives (length x) d) (λ size. length block ≢ size) (λ size. length block ≡ size) (λ t. gave_of t x block) d x

-- every block given is one of these
pub given_case : (d : Dat) (x block : List ℕ) → Given d x block (given_of d x block)
unfolding give_of
given_case Free x block = out (λ size g. gives_runs g refl)
given_case (Busy answered) x block = out (λ size g. gives_runs g refl)
given_case (Runs t) x block =
    let P = Given (Runs t) x block in
    by_test P (may_give t (length x))
    (λ e. let g = may_give_lem t (length x) e in by_test P (eqb (length block) _) (λ f. passed refl g (eqb-true _ _ f)) (λ f. wrong g (eqb-false _ _ f)))
    (λ e. out (λ size g. false≢true (sym e ∙ gives_may g)))
given_case Stuck x block = out (λ size g. gives_runs g refl)
given_case (Halted way) x block = out (λ size g. gives_runs g refl)

module _ (d : Dat) (x block : List ℕ) where
  -- 7: "event out of turn"
  pub given_7 : (number_of (given_of d x block).0.answer ≡ 7) ↔ ((size : ℕ) → Gives (length x) d size → ⊥)
  given_7 = (block_rows (λ t. refl) gives_one (given_case d x block)).0

  -- 8: "block given of length other than the block size", after 7
  pub given_8 : (number_of (given_of d x block).0.answer ≡ 8) ↔ ((size : ℕ) × Gives (length x) d size × (length block ≢ size))
  given_8 = (block_rows (λ t. refl) gives_one (given_case d x block)).1

  -- 0: "done"
  pub given_0 : (number_of (given_of d x block).0.answer ≡ 0) ↔ ((size : ℕ) × Gives (length x) d size × (length block ≡ size))
  given_0 = (block_rows (λ t. refl) gives_one (given_case d x block)).2

-- ---- a block taken

-- "running write, buffer full", and the block size
pub data Takes (room : ℕ) : Dat → ℕ → Type 0 where
  takes : {t : Transfer} → t.way ≡ Write → (held_of t.size room t.held).0 ≡ (block_of t.size room).0
      → Takes room (Runs t) (block_of t.size room).0

takes_runs : {room size : ℕ} {d : Dat} → Takes room d size → false ≡ runs_of d → ⊥
takes_runs (takes w h) e = false≢true e

takes_one : {room k : ℕ} {d : Dat} (m n : ℕ) → Takes room d m → Takes room d n → k < m → n ≤ k → ⊥
takes_one m n (takes w h) (takes v i) s l = omega arith

writes : (w : Way) → writes_of w ≡ true → w ≡ Write
writes Read e = absurd (false≢true e)
writes Write e = refl

pub takes_may : {room : ℕ} {t : Transfer} {size : ℕ} → Takes room (Runs t) size → may_take t room ≡ true
unfolding may_take
takes_may (takes w h) = simp (w, eq-eqb _ _ h)

pub may_take_lem : (t : Transfer) (room : ℕ) → may_take t room ≡ true → Takes room (Runs t) (block_of t.size room).0
unfolding may_take
may_take_lem t room e = let p = both _ _ e in takes (writes _ p.0) (eqb-true _ _ p.1)

-- what becomes of a block taken
abbrev pub Taken : Dat → List ℕ → List ℕ → Passed × List ℕ → Type 0
Taken d x room = Passes (Takes (length x) d) (λ size. length room < size) (λ size. size ≤ length room) (λ t. took_of t x room) d room

-- every block taken is one of these
pub taken_case : (d : Dat) (x room : List ℕ) → Taken d x room (taken_of d x room)
unfolding take_of
taken_case Free x room = out (λ size g. takes_runs g refl)
taken_case (Busy answered) x room = out (λ size g. takes_runs g refl)
taken_case (Runs t) x room =
    let P = Taken (Runs t) x room in
    by_test P (may_take t (length x))
    (λ e. let g = may_take_lem t (length x) e in by_test P (ltb (length room) _) (λ f. wrong g (ltb-true _ _ f)) (λ f. passed refl g (ltb-false _ _ f)))
    (λ e. out (λ size g. false≢true (sym e ∙ takes_may g)))
taken_case Stuck x room = out (λ size g. takes_runs g refl)
taken_case (Halted way) x room = out (λ size g. takes_runs g refl)

module _ (d : Dat) (x room : List ℕ) where
  -- 7: "event out of turn"
  pub taken_7 : (number_of (taken_of d x room).0.answer ≡ 7) ↔ ((size : ℕ) → Takes (length x) d size → ⊥)
  taken_7 = (block_rows (λ t. refl) takes_one (taken_case d x room)).0

  -- 8: "room for a taken block below it", after 7
  pub taken_8 : (number_of (taken_of d x room).0.answer ≡ 8) ↔ ((size : ℕ) × Takes (length x) d size × (length room < size))
  taken_8 = (block_rows (λ t. refl) takes_one (taken_case d x room)).1

  -- 0: "done"
  pub taken_0 : (number_of (taken_of d x room).0.answer ≡ 0) ↔ ((size : ℕ) × Takes (length x) d size × (size ≤ length room))
  taken_0 = (block_rows (λ t. refl) takes_one (taken_case d x room)).2
