-- Each of the engine's own steps, and so every run of them, leads to a world that the invariant holds of. Assumes nothing.
use Prim.Native.Nat.{ℕ, pred, ◌≤◌, ◌<◌}
use native.Mathlib.Omega.{arith}
use mathlib.Core.Path.{◌≡◌, refl, sym, ap, ◌∙◌, subst}
use mathlib.Core.Logic.{◌≢◌}
use mathlib.Core.List.{List, [], ◌∷◌}
use mathlib.Core.Bool.{Bool, true, false, cond, not, false≢true}
use lib.ListN.{length, take}
use lib.Seq.{paste}
use lib.Dec.{eqb, ltb}
use borrow.Author.Tests.{eqb-true, ltb-true}
use Rattle.terms.specs.Answers.{value_of}
use Rattle.terms.specs.Counts.{bytes, blocks}
use Rattle.table.specs.Memory.{memory_limit}
use Rattle.table.specs.Trace.{}
use Rattle.table.specs.declared.survey.Kind.TheVariants.{Limit}
use Rattle.engine.specs.Buffer.{block_of, held_of}
use Rattle.engine.specs.Block.{may_give, may_take, emptied_of}
use Rattle.engine.specs.Run.{Event, reply, go, given, taken, World, after_reply, after_block, next, run}
use Rattle.engine.proofs.Names.{OutOfTurn, WrongLength, Way, Read, Write, Stage, Fetching, Moving, Stopped, Transfer, Next, Fetch, Move, Stop, Finish, Err}
use Rattle.engine.proofs.Names.{Fail, Passed}
use Rattle.engine.proofs.Exactly.{both}
use Rattle.engine.proofs.Invariant.{Goal, Cargo, Now}
use Rattle.engine.proofs.Passes.{replied, reply_keeps, phase_of, passes, give_keeps, take_keeps}
use Rattle.engine.proofs.Content.{block_is, held_is, none_shown, take_shown, give_shown}
use Rattle.engine.proofs.Worlds.{running, world, runs, runs_is, dat_counts, block_refused, give_is, take_is}
use Rattle.engine.proofs.Reached.{Stands, Reached, reach, turn_leads}

-- a list of no length
nothing : (l : List ℕ) → length l ≡ 0 → l ≡ []
nothing [] e = refl
nothing (a ∷ l) e = absurd (omega arith)

module _ (counted : Bool) (G : Goal) (positive : 0 < G.size) (reaches : G.trace.kind ≢ Limit) (permitted : length G.memory ≤ memory_limit) where
  -- ---- while the transfer runs

  module _ (n : ℕ) (s : Now) (x : List ℕ) (stage : Stage) where
    abbrev c : Cargo
    c = s.cargo

    abbrev transfer : Way → Transfer
    transfer way = running way counted G.size s stage

    abbrev before : Way → World
    before way = runs way counted G.size s x stage

    -- a step that is refused
    kept : {w : World} (way : Way) → Stands way G n s x (phase_of stage) → w ≡ before way → Reached way counted G w
    kept way h e = reach way counted G n s x (phase_of stage) h (e ∙ runs_is way counted G.size s x stage)

    -- the response
    reply_leads : (way : Way) → Stands way G n s x (phase_of stage) → (a : Bool) → s.answered ≡ a → Reached way counted G (next (before way) reply)
    unfolding next
    reply_leads way h true e = kept way h (ap (λ (t : Bool). cond t (after_reply (before way)) (before way)) (ap not e))
    reply_leads way h false e =
        reach way counted G n (replied s) x (phase_of stage) (record { shown = h.shown; inv = reply_keeps way G n s (phase_of stage) e h.inv })
        (ap (λ (t : Bool). cond t (after_reply (before way)) (before way)) (ap not e) ∙ runs_is way counted G.size (replied s) x stage)

    -- ---- a block given

    module _ (block : List ℕ) where
      abbrev gives : Way → Passed × List ℕ → World
      gives way r = after_block (before way) r.0 r.1 block

      give_leads : (way : Way) (may full : Bool) → may_give (transfer way) (length x) ≡ may → eqb (length block) (block_of G.size (length x)).0 ≡ full
          → Stands way G n s x (phase_of stage) → Reached way counted G (next (before way) (given block))
      unfolding next may_give
      give_leads way false full e f h =
          kept way h (ap (gives way) (give_is (transfer way) x block false full e f) ∙ block_refused (before way) (Err OutOfTurn) block refl)
      give_leads way true false e f h =
          kept way h (ap (gives way) (give_is (transfer way) x block true false e f) ∙ block_refused (before way) (Err WrongLength) block refl)
      give_leads Write true true e f h = absurd (false≢true e)
      give_leads Read true true e f h =
          let room : G.size ≤ length x = h.shown.room in
          let size : (block_of G.size (length x)).0 ≡ G.size = block_is G.size x room in
          let held : ℕ = (held_of G.size (length x) (bytes (length c.held))).0 in
          let tests : (eqb held 0 ≡ true) × (ltb 0 c.left ≡ true) = both (eqb held 0) (ltb 0 c.left) (both s.answered _ e).1 in
          let empty : c.held ≡ [] = nothing c.held (sym (held_is G.size c.held x room h.inv.within) ∙ eqb-true held 0 tests.0) in
          let long : length block ≡ G.size = eqb-true (length block) _ f ∙ size in
          let y : List ℕ = paste x 0 block (length block) in
          reach Read counted G n (passes s block block) y (phase_of stage)
          (record {
            shown = give_shown G.size block x long room;
            inv = give_keeps G positive n s stage block empty (ltb-true 0 c.left tests.1) long h.inv;
          })
          (ap (gives Read) (give_is (transfer Read) x block true true e f)
          ∙ rw (sym (eqb-true (length block) _ f)) (runs_is Read counted G.size (passes s block block) y stage))

    -- ---- a block taken

    module _ (room : List ℕ) where
      abbrev takes : Way → Passed × List ℕ → World
      takes way r = after_block (before way) r.0 x (take (value_of r.0.answer) r.1)

      take_leads : (way : Way) (may short : Bool) → may_take (transfer way) (length x) ≡ may → ltb (length room) (block_of G.size (length x)).0 ≡ short
          → Stands way G n s x (phase_of stage) → Reached way counted G (next (before way) (taken room))
      unfolding next may_take
      take_leads way false short e f h =
          kept way h (ap (takes way) (take_is (transfer way) x room false short e f) ∙ block_refused (before way) (Err OutOfTurn) (take 0 room) refl)
      take_leads way true true e f h =
          kept way h (ap (takes way) (take_is (transfer way) x room true true e f) ∙ block_refused (before way) (Err WrongLength) (take 0 room) refl)
      take_leads Read true false e f h = absurd (false≢true e)
      take_leads Write true false e f h =
          let lent : G.size ≤ length x = h.shown.room in
          let size : (block_of G.size (length x)).0 ≡ G.size = block_is G.size x lent in
          let full : length c.held ≡ G.size = sym (held_is G.size c.held x lent h.inv.within) ∙ eqb-true _ _ e ∙ size in
          reach Write counted G n (passes s c.held []) x (emptied_of stage (blocks (pred c.left)))
          (record { shown = none_shown Write G.size x lent; inv = take_keeps G positive n s stage full h.inv })
          (ap (takes Write) (take_is (transfer Write) x room true false e f) ∙ rw (size, take_shown G.size c.held x room full h.shown, dat_counts))

  -- ---- wherever the transfer is, and whatever the step

  module _ (n : ℕ) (s : Now) (x : List ℕ) (way : Way) where
    runs_leads : (stage : Stage) (e : Event) → Stands way G n s x (phase_of stage) → Reached way counted G (next (runs way counted G.size s x stage) e)
    runs_leads stage reply h = reply_leads n s x stage way h s.answered refl
    runs_leads stage go h =
        subst (λ (w : World). Reached way counted G (next w go)) (sym (runs_is way counted G.size s x stage))
        (turn_leads counted G positive reaches permitted n s x way (phase_of stage) h)
    runs_leads stage (given block) h = give_leads n s x stage block way _ _ refl refl h
    runs_leads stage (taken room) h = take_leads n s x stage room way _ _ refl refl h

    -- a transfer that has ended refuses the response and the blocks
    ended_leads : (st : Next) (e : Event) → Stands way G n s x st → let w = world way counted G.size s x st in
        next w reply ≡ w → ((block : List ℕ) → next w (given block) ≡ w) → ((room : List ℕ) → next w (taken room) ≡ w)
        → Reached way counted G (next w e)
    ended_leads st reply h r g t = reach way counted G n s x st h r
    ended_leads st go h r g t = turn_leads counted G positive reaches permitted n s x way st h
    ended_leads st (given block) h r g t = reach way counted G n s x st h (g block)
    ended_leads st (taken room) h r g t = reach way counted G n s x st h (t room)

    -- either
    leads : (st : Next) (e : Event) → Stands way G n s x st → Reached way counted G (next (world way counted G.size s x st) e)
    unfolding next
    leads Fetch e h = runs_leads Fetching e h
    leads (Move d) e h = runs_leads (Moving d) e h
    leads Stop e h = runs_leads Stopped e h
    leads Finish e h = ended_leads Finish e h refl (λ b. refl) (λ b. refl)
    leads (Fail state) e h = ended_leads (Fail state) e h refl (λ b. refl) (λ b. refl)

  -- one step of a run
  then : (way : Way) (w : World) (e : Event) → Reached way counted G w → Reached way counted G (next w e)
  then way w e r =
      subst (λ (u : World). Reached way counted G (next u e)) (sym r.is) (leads r.ahead r.now r.buffer way r.phase e r.stands)

  -- any list of steps
  pub run_leads : (way : Way) (es : List Event) (w : World) → Reached way counted G w → Reached way counted G (run w es)
  unfolding run
  run_leads way [] w r = r
  run_leads way (e ∷ es) w r = run_leads way es (next w e) (then way w e r)
