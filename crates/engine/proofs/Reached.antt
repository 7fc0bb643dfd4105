-- A turn leads from a world that the invariant holds of to another such world. Assumes nothing.
use Prim.Native.Nat.{ℕ, zero, suc, pred, min, ◌+◌, ◌-◌, ◌≤◌, ◌<◌}
use native.Mathlib.Omega.{arith}
use mathlib.Core.Path.{◌≡◌, refl, ap, ◌∙◌, subst}
use mathlib.Core.Logic.{◌≢◌}
use mathlib.Core.List.{List}
use mathlib.Core.Bool.{Bool, true, false}
use lib.ListN.{length, drop, length-drop}
use lib.Seq.{paste}
use Rattle.terms.specs.Counts.{bytes}
use Rattle.table.specs.Memory.{memory_limit}
use Rattle.table.specs.Fetch.{fetch_of}
use Rattle.table.specs.Trace.{}
use Rattle.table.specs.declared.survey.Kind.TheVariants.{Limit}
use Rattle.engine.specs.Buffer.{ready_of}
use Rattle.engine.specs.Turn.{refused_as, seen, further, done_rest, carry_of, moved_of, running_of, staged_of, turn_of}
use Rattle.terms.specs.Answers.{is_done}
use Rattle.engine.specs.Run.{go, World, after_turn, next}
use Rattle.engine.proofs.Names.{ByteCount, Answer, NotYet, NoTransfer, Fetched, Way, Read, Write, Fetching, Moving, Transfer, Dat, Runs, Next, Fetch, Err, in_hand}
use Rattle.engine.proofs.Names.{Move, Stop, Finish, Fail}
use Rattle.engine.proofs.Invariant.{Goal, Cargo, Now, Shape, Inv}
use Rattle.engine.proofs.Moves.{moved_cargo, loaded, loaded_length, unloaded}
use Rattle.engine.proofs.Turns.{turned, fetched, fetch_keeps, load_keeps, unload_keeps}
use Rattle.engine.proofs.Content.{Shown, block_is, held_is, load_shown, unload_shown, unload_memory}
use Rattle.engine.proofs.Worlds.{running, world, runs, dat_counts, turn_refused, turn_small, answered_is, waits_is, moves_is}

-- a buffer holds the bytes of a state that the invariant holds of
pub record Stands (way : Way) (G : Goal) (n : ℕ) (s : Now) (x : List ℕ) (st : Next) : Type 0 where
  pub shown : Shown way G.size s.cargo.held x
  pub inv : Inv way G n s st

-- a world that shows such a state
pub record Reached (way : Way) (counted : Bool) (G : Goal) (w : World) : Type 0 where
  pub ahead : ℕ
  pub now : Now
  pub buffer : List ℕ
  pub phase : Next
  pub is : w ≡ world way counted G.size now buffer phase
  pub stands : Stands way G ahead now buffer phase

-- that a world is one
pub reach : (way : Way) (counted : Bool) (G : Goal) (n : ℕ) (s : Now) (x : List ℕ) (st : Next) {w : World} → Stands way G n s x st
    → w ≡ world way counted G.size s x st → Reached way counted G w
reach way counted G n s x st h e = record { ahead = n; now = s; buffer = x; phase = st; is = e; stands = h }

module _ (counted : Bool) (G : Goal) (positive : 0 < G.size) (reaches : G.trace.kind ≢ Limit) (permitted : length G.memory ≤ memory_limit) where
  module _ (n : ℕ) (s : Now) (x : List ℕ) where
    abbrev c : Cargo
    c = s.cargo

    -- the lent memory is permitted
    turn_is : (way : Way) (st : Next) (d : Dat) → Stands way G n s x st → turn_of d s.table x c.memory ≡ staged_of d s.table x c.memory
    turn_is way st d h = turn_small d s.table x c.memory (omega (arith, h.inv.long))

    -- a turn that is refused
    refused_leads : (way : Way) (st : Next) (a : Answer) → is_done a ≡ false → Stands way G n s x st
        → (let w = world way counted G.size s x st in staged_of w.dat s.table x c.memory ≡ (refused_as w.dat s.table a, x, c.memory))
        → Reached way counted G (next (world way counted G.size s x st) go)
    unfolding next
    refused_leads way st a off h e =
        let w : World = world way counted G.size s x st in
        reach way counted G n s x st h (ap (after_turn w) (turn_is way st w.dat h ∙ e) ∙ turn_refused w a off)

    -- ---- with no line in hand

    fetch_leads : (way : Way) → Stands way G n s x Fetch → (a : Bool) → s.answered ≡ a
        → Reached way counted G (next (runs way counted G.size s x Fetching) go)
    unfolding next staged_of running_of
    fetch_leads way h false e =
        refused_leads way Fetch (Err NotYet) refl h
        (answered_is (running way counted G.size s Fetching) s.table x c.memory s.answered false _ e)
    fetch_leads way h true e =
        let t : Transfer = running way counted G.size s Fetching in
        let w : World = runs way counted G.size s x Fetching in
        let f : Fetched = fetch_of c.memory s.table (bytes c.owed) in
        reach way counted G (pred n) (fetched s f) x (seen f c.owed c.left (length c.held))
        (record { shown = h.shown; inv = fetch_keeps G positive way n s reaches h.inv })
        (ap (after_turn w) (turn_is way Fetch (Runs t) h ∙ answered_is t s.table x c.memory s.answered true _ e)
        ∙ rw (held_is G.size c.held x h.shown.room h.inv.within, dat_counts))

    -- ---- with a line in hand

    module _ (rest : ByteCount) (at : ℕ) (last int : Bool) where
      abbrev hand : Next
      hand = Move (in_hand rest at last int)

      abbrev transfer : Way → Transfer
      transfer way = running way counted G.size s (Moving (in_hand rest at last int))

      abbrev before : Way → World
      before way = runs way counted G.size s x (Moving (in_hand rest at last int))

      -- so many bytes are moved, and these are then held, with this buffer and this memory
      moved_leads : (way : Way) (ready : ℕ) (held mem y : List ℕ) → let k = min rest.0 ready in
          Stands way G n s x hand → s.answered ≡ true → ready_of way G.size (length x) (bytes (length c.held)) ≡ bytes ready → 0 < ready
          → carry_of way (transfer way) x c.memory at (bytes k) ≡ (bytes (length held), y, mem) → Shown way G.size held y
          → (Inv way G n s (Move (in_hand (bytes (k + (rest.0 - k))) at last int))
          → Inv way G n (turned s (moved_cargo c k held mem) s.table (done_rest (rest.0 - k) int))
          (further (rest.0 - k) (at + k) last int (c.owed - k) c.left (length held)))
          → Reached way counted G (next (before way) go)
      unfolding next staged_of running_of Shape
      moved_leads way ready held mem y h a is some put shown keeps =
          let t : Transfer = transfer way in
          let k : ℕ = min rest.0 ready in
          let r : ℕ = rest.0 - k in
          let e : rest.0 ≡ k + r = omega arith in
          reach way counted G n (turned s (moved_cargo c k held mem) s.table (done_rest r int)) y
          (further r (at + k) last int (c.owed - k) c.left (length held))
          (record { shown = shown; inv = keeps (subst (λ (m : ℕ). Inv way G n s (Move (in_hand (bytes m) at last int))) e h.inv) })
          (ap (after_turn (before way))
          (turn_is way hand (Runs t) h
          ∙ answered_is t s.table x c.memory s.answered true _ a
          ∙ moves_is t s.table x c.memory rest at last int ready is some (omega (arith, h.inv.shape.2))
          ∙ ap (moved_of t s.table (in_hand rest at last int) (bytes k)) put)
          ∙ rw dat_counts)

      -- by the bytes that the buffer is ready for: none, its room (write) or its content (read)
      ready_leads : (way : Way) → Stands way G n s x hand → s.answered ≡ true → (ready : ℕ)
          → ready_of way G.size (length x) (bytes (length c.held)) ≡ bytes ready → Reached way counted G (next (before way) go)
      unfolding staged_of running_of Shape
      ready_leads way h a zero e =
          let t : Transfer = transfer way in
          refused_leads way hand (Err NotYet) refl h
          (answered_is t s.table x c.memory s.answered true _ a ∙ waits_is t s.table x c.memory rest at last int 0 e refl)
      ready_leads Write h a (suc r) e =
          let k : ℕ = min rest.0 (suc r) in
          let room : length c.held + suc r ≡ G.size = omega (arith, ap (λ (b : ByteCount). b.0) e, h.shown.room, h.inv.within) in
          let m : at + k ≤ length c.memory = omega (arith, h.inv.shape.2) in
          moved_leads Write (suc r) (loaded c at k).held c.memory (paste x (length c.held) (drop at c.memory) k) h a e (omega arith)
          (rw (held_is G.size c.held x h.shown.room h.inv.within, ← loaded_length c at k m))
          (load_shown G.size c.held x c.memory at k (omega arith) m h.shown)
          (load_keeps G positive n s at k (rest.0 - k) last int (omega arith) (omega arith) (omega arith))
      ready_leads Read h a (suc r) e =
          let k : ℕ = min rest.0 (suc r) in
          let all : length c.held ≡ suc r = omega (arith, ap (λ (b : ByteCount). b.0) e, h.shown.room, h.inv.within) in
          moved_leads Read (suc r) (drop k c.held) (unloaded c at k).memory x h a e (omega arith)
          (rw (
            held_is G.size c.held x h.shown.room h.inv.within,
            block_is G.size x h.shown.room,
            unload_memory G.size c.held x c.memory at k (omega arith) h.shown,
            length-drop k c.held,
          ))
          (unload_shown G.size c.held x k (omega arith) h.inv.within h.shown)
          (unload_keeps G positive n s at k (rest.0 - k) last int (omega arith) (omega arith) (omega arith))

      move_leads : (way : Way) → Stands way G n s x hand → (a : Bool) → s.answered ≡ a → Reached way counted G (next (before way) go)
      unfolding staged_of running_of
      move_leads way h false e = refused_leads way hand (Err NotYet) refl h (answered_is (transfer way) s.table x c.memory s.answered false _ e)
      move_leads way h true e = ready_leads way h e (ready_of way G.size (length x) (bytes (length c.held))).0 refl

    -- ---- wherever the transfer is

    -- a turn, "no transfer, a halted one, or engine stopped" among the rest
    pub turn_leads : (way : Way) (st : Next) → Stands way G n s x st → Reached way counted G (next (world way counted G.size s x st) go)
    unfolding staged_of running_of
    turn_leads way Fetch h = fetch_leads way h s.answered refl
    turn_leads way (Move d) h = move_leads d.rest d.at d.last d.int way h s.answered refl
    turn_leads way Stop h = refused_leads way Stop (Err NoTransfer) refl h refl
    turn_leads way Finish h = refused_leads way Finish (Err NoTransfer) refl h refl
    turn_leads way (Fail state) h = refused_leads way (Fail state) (Err NoTransfer) refl h refl
