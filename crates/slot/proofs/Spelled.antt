-- The record of a slot spells that slot, and each step on a record is the controller's own step on the slot that it spells. Assumes nothing.
use mathlib.Core.Path.{◌≡◌, refl, sym, ap}
use mathlib.Core.Logic.{◌≢◌}
use mathlib.Core.List.{List}
use mathlib.Core.Bool.{Bool, true, false}
use Prim.Native.Nat.{ℕ}
use borrow.Author.Tests.{eqb-true, eqb-false}
use Rattle.terms.specs.Answers.{number_of, value_of}
use Rattle.table.specs.declared.line.Line.{Line}
use Rattle.engine.specs.declared.transfer.Way.{Way}
use Rattle.engine.specs.declared.transfer.Way.TheVariants.{Read, Write}
use Rattle.engine.specs.declared.transfer.Stage.{Stage}
use Rattle.engine.specs.declared.transfer.Stage.TheVariants.{Fetching, Moving, Stopped}
use Rattle.engine.specs.declared.transfer.Dat.{Dat}
use Rattle.engine.specs.declared.transfer.Dat.TheVariants as dat
use Rattle.controller.specs.Command.{kind_of}
use Rattle.controller.specs.Slot.{stepped_as}
use Rattle.controller.specs.Steps.{Step, read, write, card_in, card_out, response, block_given, block_taken, busy_over_step, data_error_step, level, turn, World, step_of}
use Rattle.controller.specs.declared.slot.Kind.{Kind}
use Rattle.controller.specs.declared.slot.Kind.TheVariants.{Silent, Long, Short, ShortBusy}
use Rattle.controller.specs.declared.slot.Command.{Command}
use Rattle.controller.specs.declared.slot.Command.TheVariants as command
use Rattle.controller.specs.declared.slot.Slot.{Slot}
use Rattle.controller.specs.Slot as controller
use Rattle.controller.proofs.Causes.{by_test}
use Rattle.controller.proofs.Refused.{refused}
use Rattle.terms.specs.Flag.{unit_of}
use Rattle.slot.specs.Record.{flag_at, way_at, command_at, stage_at, dat_at, slot_of, kind_tag, way_tag, command_part, stage_part, dat_part, record_of}
use Rattle.slot.specs.Step.{Stepped, answer_of, keeps, spelled}
use Rattle.slot.specs.Lines.{line_at, line_part}
use Rattle.slot.specs.declared.record.Record.{Record}
use Rattle.slot.specs.Same.{world_of, record_step, Agree}

-- ---- the record of a slot

flag_spells : (t : Bool) → flag_at (unit_of t) ≡ t
flag_spells true = refl
flag_spells false = refl

way_spells : (w : Way) → way_at (way_tag w) ≡ w
way_spells Read = refl
way_spells Write = refl

kind_spells : (k : Kind) → kind_of (kind_tag k) ≡ k
kind_spells Silent = refl
kind_spells Long = refl
kind_spells Short = refl
kind_spells ShortBusy = refl

command_spells : (c : Command) → command_at (command_part c) ≡ c
command_spells command.Idle = refl
command_spells (command.Waits w) =
    λ j. command.Waits (record { kind = kind_spells w.kind j; crc = flag_spells w.crc j; index = flag_spells w.index j })
command_spells command.Halted = refl

stage_spells : (s : Stage) → stage_at (stage_part s) ≡ s
stage_spells Fetching = refl
stage_spells (Moving h) = λ j. Moving (record { rest = h.rest; at = h.at; last = flag_spells h.last j; int = flag_spells h.int j })
stage_spells Stopped = refl

dat_spells : (d : Dat) → dat_at (dat_part d) ≡ d
dat_spells dat.Free = refl
dat_spells (dat.Busy answered) = λ j. dat.Busy (flag_spells answered j)
dat_spells (dat.Runs t) =
    λ j. dat.Runs
    (record {
      way = way_spells t.way j;
      answered = flag_spells t.answered j;
      counted = flag_spells t.counted j;
      size = t.size;
      left = t.left;
      owed = t.owed;
      held = t.held;
      stage = stage_spells t.stage j;
    })
dat_spells dat.Stuck = refl
dat_spells (dat.Halted way) = λ j. dat.Halted (way_spells way j)

-- the record of a slot spells that slot
pub spells : (s : Slot) → slot_of (record_of s) ≡ s
spells s =
    λ j. record {
      registers = s.registers;
      card = flag_spells s.card j;
      level = flag_spells s.level j;
      command = command_spells s.command j;
      dat = dat_spells s.dat j;
    }

-- the parts of a line spell that line
pub line_spells : (l : Line) → line_at (line_part l) ≡ l
line_spells l =
    λ j. record {
      flags = record {
        valid = flag_spells l.flags.valid j;
        end = flag_spells l.flags.end j;
        int = flag_spells l.flags.int j;
        act1 = flag_spells l.flags.act1 j;
        act2 = flag_spells l.flags.act2 j;
      };
      length = l.length;
      address = l.address;
    }

-- ---- one step

-- a step is done, and the record after it is that of the slot after it; or it is refused, and the record stays
pub spelled_cases : (P : Stepped → Type 0) (r : Record) (s : controller.Stepped)
    → (number_of s.answer ≡ 0 → P (record { after = record_of s.slot; answer = answer_of s.answer }))
    → (number_of s.answer ≢ 0 → P (keeps r s.answer)) → P (spelled r s)
spelled_cases P r s done kept = by_test P _ (λ e. done (eqb-true _ 0 e)) (λ e. kept (eqb-false _ 0 e))

-- each step on a record is the controller's own step on the slot that it spells: the slot that is spelled after it
pub spelled_slot : (r : Record) (s : controller.Stepped) → (number_of s.answer ≢ 0 → s.slot ≡ slot_of r) → slot_of (spelled r s).after ≡ s.slot
spelled_slot r s h = spelled_cases (λ z. slot_of z.after ≡ s.slot) r s (λ e. spells s.slot) (λ n. sym (h n))

-- and its answer
pub spelled_answer : (r : Record) (s : controller.Stepped)
    → ((spelled r s).answer.number ≡ number_of s.answer) × ((spelled r s).answer.value ≡ value_of s.answer)
spelled_answer r s =
    let same = spelled_cases (λ z. z.answer ≡ answer_of s.answer) r s (λ e. refl) (λ n. refl) in
    (λ j. (same j).number, λ j. (same j).value)

-- "A refusal ... changes no register, no state": not a byte of the record
pub spelled_refused : (r : Record) (s : controller.Stepped) → (spelled r s).answer.number ≢ 0 → (spelled r s).after ≡ r
spelled_refused r s = spelled_cases (λ z. z.answer.number ≢ 0 → z.after ≡ r) r s (λ e n. absurd (n e)) (λ n k. refl)

-- ---- every step

-- what a step of the controller gives, spelled out; a refused one leaves the slot that the record spells
in_step : (r : Record) (x mem : List ℕ) (e : Step) →
    let c = step_of (world_of r x mem) e in
    let z = spelled r (stepped_as c.answer c.world.slot) in
    Agree (record { stepped = z; buffer = c.world.buffer; memory = c.world.memory; room = c.room }) c
in_step r x mem e =
    let c = step_of (world_of r x mem) e in
    let s = stepped_as c.answer c.world.slot in
    let a = spelled_answer r s in
    let h = spelled_slot r s (λ n. ap (λ (w : World). w.slot) (refused (world_of r x mem) e n).1) in
    record { world = λ j. record { slot = h j; buffer = c.world.buffer; memory = c.world.memory }; room = refl; number = a.0; value = a.1 }

-- the steps of a record are those of the controller: each spells the controller's own step, in the world that the record spells
pub same_step : (r : Record) (x mem : List ℕ) (e : Step) → Agree (record_step r x mem e) (step_of (world_of r x mem) e)
unfolding step_of
same_step r x mem (read offset width) = record { world = refl; room = refl; number = refl; value = refl }
same_step r x mem (write offset width value) = in_step r x mem (write offset width value)
same_step r x mem card_in = in_step r x mem card_in
same_step r x mem card_out = in_step r x mem card_out
same_step r x mem (response result w) = in_step r x mem (response result w)
same_step r x mem (block_given block) = in_step r x mem (block_given block)
same_step r x mem (block_taken room) = in_step r x mem (block_taken room)
same_step r x mem busy_over_step = in_step r x mem busy_over_step
same_step r x mem (data_error_step number) = in_step r x mem (data_error_step number)
same_step r x mem (level true) = in_step r x mem (level true)
same_step r x mem (level false) = in_step r x mem (level false)
same_step r x mem turn = in_step r x mem turn
