-- The end of a transfer and the two bits that it raises: in the step that ends it, and not sooner. Assumes nothing.
use Prim.Native.Nat.{ℕ}
use native.Mathlib.Omega.{arith}
use mathlib.Core.Path.{◌≡◌, refl, sym, ap, ◌∙◌}
use mathlib.Core.Logic.{◌≢◌, inl, inr}
use mathlib.Core.List.{List, [], ◌∷◌, ◌++◌}
use mathlib.Core.Bool.{Bool, true, false, not, ◌&&◌, true≢false, false≢true}
use Rattle.terms.specs.Answers.{number_of, is_done}
use Rattle.table.specs.Fetch.{byte_of}
use Rattle.table.specs.declared.survey.Kind.{Kind}
use Rattle.table.specs.declared.survey.Kind.TheVariants.{Well, Error, Limit}
use Rattle.registers.specs.Bits.{bit_of}
use Rattle.registers.specs.Block.{with_low, with_fault}
use Rattle.registers.specs.Interrupt.{event_bit}
use Rattle.registers.specs.declared.block.Registers.{Registers}
use Rattle.registers.specs.declared.block.Reply.{Reply}
use Rattle.registers.specs.declared.interrupt.Interrupts.{Interrupts}
use Rattle.registers.specs.declared.interrupt.Event.{Event}
use Rattle.registers.specs.declared.interrupt.Event.TheVariants.{CommandComplete, TransferComplete, DmaInterrupt, CardInsertion, AdmaError}
use Rattle.registers.proofs.Standing.{after_acknowledge}
use Rattle.engine.specs.Transfer.{runs_of}
use Rattle.engine.specs.Turn as engine
use Rattle.engine.specs.Demand.{ends_as}
use Rattle.engine.specs.declared.transfer.Way.{Way}
use Rattle.engine.specs.declared.transfer.Dat.{Dat}
use Rattle.engine.specs.declared.transfer.Dat.TheVariants.{Free, Halted}
use Rattle.engine.specs.Block.{Passed}
use Rattle.controller.specs.Slot.{Stepped, answered_dat, raised_at, with_sides}
use Rattle.controller.specs.Card.{respond_to, respond_of}
use Rattle.controller.specs.Data.{counts_of, outcome_at, passed_as, busy_over_at, busy_over}
use Rattle.controller.specs.Steps.{Step, read, write, card_in, card_out, response, block_given, block_taken, busy_over_step, data_error_step, level, turn, World, step_of}
use Rattle.controller.specs.declared.slot.Command.{Command}
use Rattle.controller.specs.declared.slot.Command.TheVariants as command
use Rattle.controller.specs.declared.slot.Slot.{Slot}
use Rattle.controller.proofs.Causes.{by_test}
use Rattle.controller.proofs.Refused.{refused}
use Rattle.demands.specs.Run.{deeds, reached, running}
use Rattle.demands.specs.Issued.{way_of, trace_at}
use Rattle.demands.specs.Granted.{Granted, Fair, AllFair}
use Rattle.demands.specs.Line.{stands, enabled, end_event, Told}
use Rattle.demands.proofs.Acknowledges.{write_acknowledges}
use Rattle.demands.proofs.Sides.{by_dat, never}
use Rattle.demands.proofs.Leads.{Leads, stays, goes, completes, fails, ended, turn_leads, given_leads, taken_leads}
use Rattle.demands.proofs.Follows.{passed_is}
use Rattle.demands.proofs.Held.{held}
use Rattle.demands.proofs.Completions.{raised_stands, raised_others}
use Rattle.demands.proofs.Whole.{free_well, beside, demanded}

-- ---- one step while a transfer runs

-- no bit of an ending stands that did not stand before
abbrev NoneNew : Interrupts → Interrupts → Type 0
NoneNew old new = (kind : Kind) → bit_of new.status (event_bit (end_event kind)) ≡ true → bit_of old.status (event_bit (end_event kind)) ≡ true

-- the transfer goes on and tells no end; or it ends, with DAT free or halted, and this raises the bit, after effects that raise none
data Comes (s : Slot) : Slot → Type 0 where
  goes_on : {a : Slot} → runs_of a.dat ≡ true → NoneNew s.registers.interrupts a.registers.interrupts → Comes s a
  ends_well : {a : Slot} (r : Registers) → r.interrupts.enabled ≡ s.registers.interrupts.enabled
      → NoneNew s.registers.interrupts r.interrupts → a.registers ≡ raised_at TransferComplete r → a.dat ≡ Free → Comes s a
  ends_ill : {a : Slot} {way : Way} (r : Registers) → r.interrupts.enabled ≡ s.registers.interrupts.enabled
      → NoneNew s.registers.interrupts r.interrupts → a.registers ≡ raised_at AdmaError r → a.dat ≡ Halted way → Comes s a

-- an event that is no ending raises no bit of one
abbrev Aside : Event → Type 0
Aside event = (kind : Kind) → event ≢ end_event kind

aside_new : (event : Event) (r : Registers) → Aside event → NoneNew r.interrupts (raised_at event r).interrupts
aside_new event r n kind h = sym (raised_others event (end_event kind) r (n kind)) ∙ h

aside : (event : Event) → event_bit event ≢ event_bit TransferComplete → event_bit event ≢ event_bit AdmaError → Aside event
aside event n m Well e = n (ap (λ (x : Event). event_bit x) e)
aside event n m (Error f) e = m (ap (λ (x : Event). event_bit x) e)
aside event n m Limit e = m (ap (λ (x : Event). event_bit x) e)

-- what an acknowledgement leaves stood before
left_stood : (a b : Bool) → (a && not b) ≡ true → a ≡ true
left_stood true b e = refl
left_stood false b e = e

runs_answered : (d : Dat) → runs_of (answered_dat d) ≡ runs_of d
runs_answered = by_dat (λ d. runs_of (answered_dat d) ≡ runs_of d) refl (λ a. refl) refl (λ way. refl) (λ t. refl)

module _ (w : World) (runs : running w ≡ true) where
  abbrev old : Interrupts
  old = w.slot.registers.interrupts

  same : Comes w.slot w.slot
  same = goes_on runs (λ kind h. h)

  -- after a turn or a block, its other effects on the registers being r
  abbrev Ended : Passed → Registers → Type 0
  Ended p r = Comes w.slot (with_sides w.slot (outcome_at p.outcome r) w.slot.command p.dat)

  led : {p : Passed} (r : Registers) → Leads w.slot.dat p → r.interrupts.enabled ≡ old.enabled → NoneNew old r.interrupts → Ended p r
  led r l on new = go l runs
    where
      go : {d : Dat} {p : Passed} → Leads d p → runs_of d ≡ true → Ended p r
      go (stays a) e = goes_on e new
      go goes e = goes_on refl new
      go completes e = ends_well r on new refl refl
      go (fails {f = f}) e = ends_ill (with_fault r (byte_of f)) on new refl refl

  blocked : (p : Passed) → Leads w.slot.dat p → Comes w.slot (passed_as w.slot p).slot
  blocked p l =
      rw (passed_is w.slot refl l)
      (by_test (Ended p) (is_done p.answer)
      (λ a. by_test (Ended p) (counts_of w.slot.dat) (λ c. led _ l refl (λ kind h. h)) (λ c. led _ l refl (λ kind h. h)))
      (λ a. led _ l refl (λ kind h. h)))

  raises : (event : Event) → Aside event → (r : Registers) (c : Command) (d : Dat) → r.interrupts ≡ old → runs_of d ≡ true
      → Comes w.slot (with_sides w.slot (raised_at event r) c d)
  raises event n r c d e g = goes_on g (λ kind h. rw e at (aside_new event r n kind h))

  kept : (e : Step) → number_of (step_of w e).answer ≢ 0 → Comes w.slot (step_of w e).world.slot
  kept e n = rw (refused w e n).1 same

  responded : (words : Reply) (c : Command) → Comes w.slot (respond_to c w.slot 0 words).slot
  responded words command.Idle = same
  responded words (command.Waits q) =
      raises CommandComplete (aside CommandComplete (omega arith) (omega arith)) _ command.Idle _ refl (runs_answered w.slot.dat ∙ runs)
  responded words command.Halted = same

  over : (d : Dat) → runs_of d ≡ true → Comes w.slot (busy_over_at d w.slot).slot
  over = by_dat (λ d. runs_of d ≡ true → Comes w.slot (busy_over_at d w.slot).slot) never (λ a. never) never (λ way. never) (λ t e. same)

  comes : (e : Step) → Fair (record { step = e; result = step_of w e }) → Comes w.slot (step_of w e).world.slot
  unfolding step_of respond_of busy_over
  comes (read offset width) h = same
  comes (write offset width value) (inl n) = kept (write offset width value) n
  comes (write offset width value) (inr (low, high)) =
      write_acknowledges (λ (s : Stepped). Comes w.slot s.slot) w.slot offset width value low high (λ a. same)
      (λ bits. goes_on runs (λ kind h. left_stood _ (bit_of bits (event_bit (end_event kind))) (sym (after_acknowledge bits old (event_bit (end_event kind))) ∙ h)))
  comes card_in h =
      by_test (λ (s : Stepped). Comes w.slot s.slot) w.slot.card (λ c. same)
      (λ c. goes_on runs (aside_new CardInsertion w.slot.registers (aside CardInsertion (omega arith) (omega arith))))
  comes card_out (inl n) = kept card_out n
  comes card_out (inr b) = absurd b
  comes (response result words) (inl n) = kept (response result words) n
  comes (response result words) (inr z) = rw z (responded words w.slot.command)
  comes (block_given bytes) h = blocked _ (given_leads w.slot.dat w.buffer bytes)
  comes (block_taken room) h = blocked _ (taken_leads w.slot.dat w.buffer room)
  comes busy_over_step h = over w.slot.dat runs
  comes (data_error_step number) (inl n) = kept (data_error_step number) n
  comes (data_error_step number) (inr b) = absurd b
  comes (level up) h = by_test (λ (s : Stepped). Comes w.slot s.slot) w.slot.card (λ c. goes_on runs (λ kind h. h)) (λ c. same)
  comes turn h =
      let r = (engine.turn_of w.slot.dat w.slot.registers.adma.low w.buffer w.memory).0 in
      let l = turn_leads w.slot.dat w.slot.registers.adma.low w.buffer w.memory in
      let low = with_low w.slot.registers r.table in
      by_test (Ended (ended r)) r.int
      (λ i. led (raised_at DmaInterrupt low) l refl (aside_new DmaInterrupt low (aside DmaInterrupt (omega arith) (omega arith))))
      (λ i. led low l refl (λ kind h. h))

-- ---- the last step of a run

reached_last : (w : World) (es : List Step) (e : Step) → reached w (es ++ e ∷ []) ≡ (step_of (reached w es) e).world
unfolding reached
reached_last w [] e = refl
reached_last w (d ∷ es) e = reached_last (step_of w d).world es e

last_fair : (w : World) (es : List Step) (e : Step) → AllFair (deeds w (es ++ e ∷ [])) → Fair (record { step = e; result = step_of (reached w es) e })
unfolding reached deeds
last_fair w [] e (h, hs) = h
last_fair w (d ∷ es) e (h, hs) = last_fair (step_of w d).world es e hs

-- DAT is halted only after a table that does not go well
halted_event : (way other : Way) (k : Kind) → ends_as way k ≡ Halted other → end_event k ≡ AdmaError
halted_event way other Well e = cc
halted_event way other (Error f) e = refl
halted_event way other Limit e = refl

module _ (w : World) (lines : ℕ) (h : Granted w lines) (es : List Step) (e : Step) (fair : AllFair (deeds w (es ++ e ∷ []))) where
  abbrev here : World
  here = reached w es

  abbrev there : World
  there = (step_of here e).world

  -- how the DAT side stands once the transfer has ended
  stood : running there ≡ false → there.slot.dat ≡ ends_as (way_of w) (trace_at w lines).kind
  stood g =
      let f = beside w lines h (es ++ e ∷ []) fair in
      let same = ap (λ (x : World). x.slot.dat) (reached_last w es e) in
      sym same ∙ f.dat ∙ (demanded w lines h (es ++ e ∷ []) fair).stands (sym (ap runs_of (sym same ∙ f.dat)) ∙ g)

  bit_raised : (event : Event) (r : Registers) → end_event (trace_at w lines).kind ≡ event
      → r.interrupts.enabled ≡ here.slot.registers.interrupts.enabled
      → there.slot.registers ≡ raised_at event r → enabled (end_event (trace_at w lines).kind) here.slot ≡ true
      → stands (end_event (trace_at w lines).kind) there.slot ≡ true
  bit_raised event r k same is on = rw (k, is) (raised_stands event r (rw (same, ← k) on))

  rings : Comes here.slot there.slot → running there ≡ false → enabled (end_event (trace_at w lines).kind) here.slot ≡ true
      → stands (end_event (trace_at w lines).kind) there.slot ≡ true
  rings (goes_on r new) g on = absurd (true≢false (sym r ∙ g))
  rings (ends_well r same new is free) g on =
      bit_raised TransferComplete r (ap (λ (k : Kind). end_event k) (free_well (way_of w) (trace_at w lines).kind (sym (stood g) ∙ free))) same is on
  rings (ends_ill {way = way} r same new is halted) g on =
      bit_raised AdmaError r (halted_event (way_of w) way (trace_at w lines).kind (sym (stood g) ∙ halted)) same is on

  quiet : Comes here.slot there.slot → running there ≡ true → NoneNew here.slot.registers.interrupts there.slot.registers.interrupts
  quiet (goes_on r new) g = new
  quiet (ends_well r same new is free) g = absurd (false≢true (sym (ap runs_of free) ∙ g))
  quiet (ends_ill r same new is halted) g = absurd (false≢true (sym (ap runs_of halted) ∙ g))

  -- a bit that the last effect does not raise stood before it
  other_stood : (event : Event) (kind : Kind) (r : Registers) → event ≢ end_event kind → NoneNew here.slot.registers.interrupts r.interrupts
      → there.slot.registers ≡ raised_at event r → stands (end_event kind) there.slot ≡ true → stands (end_event kind) here.slot ≡ true
  other_stood event kind r n new is up = new kind (sym (raised_others event (end_event kind) r n) ∙ rw is at up)

  alone : Comes here.slot there.slot → (kind : Kind) → running there ≡ false → end_event kind ≢ end_event (trace_at w lines).kind
      → stands (end_event kind) there.slot ≡ true → stands (end_event kind) here.slot ≡ true
  alone (goes_on r new) kind g n up = new kind up
  alone (ends_well r same new is free) kind g n up =
      other_stood TransferComplete kind r (λ e. n (sym e ∙ ap (λ (k : Kind). end_event k) (sym (free_well (way_of w) (trace_at w lines).kind (sym (stood g) ∙ free))))) new is up
  alone (ends_ill {way = way} r same new is halted) kind g n up =
      other_stood AdmaError kind r (λ e. n (sym e ∙ sym (halted_event (way_of w) way (trace_at w lines).kind (sym (stood g) ∙ halted)))) new is up

  -- "An enabled ending raises its bit and, if signalled, holds the line up until that bit is cleared, reset or loses an enable."
  pub demand_3_told : running here ≡ true → Told w lines es e
  demand_3_told g =
      let c = comes here g e (last_fair w es e fair) in
      record { raises = λ n on. held _ _ (rings c n on); alone = alone c; sooner = λ kind n. quiet c n kind }
