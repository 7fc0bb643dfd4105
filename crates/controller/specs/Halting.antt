-- "Halted means only a reset frees it": what a step may do to a use or a command that is halted. Assumes nothing: these are definitions.
use Rattle.std.specs.Prelude.{ℕ, ◌≡◌, Bool, true, false, ◌||◌, Option, Some, None}
use Rattle.registers.specs.Place.{target_of}
use Rattle.registers.specs.Reset.{no_resets, resets_of}
use Rattle.registers.specs.declared.place.Target.{Target}
use Rattle.registers.specs.declared.reset.Resets.{Resets}
use Rattle.engine.specs.declared.transfer.Dat.{Dat}
use Rattle.engine.specs.declared.transfer.Dat.TheVariants as dat
use Rattle.controller.specs.Steps.{Step, read, write, card_in, card_out, response, block_given, block_taken, busy_over_step, data_error_step, level, turn, World, step_of}
use Rattle.controller.specs.declared.slot.Command.TheVariants.{Halted}

-- is a use of the DAT side halted, a busy or a transfer?
abbrev pub is_halted : Dat → Bool
is_halted dat.Free = false
is_halted (dat.Busy answered) = false
is_halted (dat.Runs t) = false
is_halted dat.Stuck = true
is_halted (dat.Halted way) = true

-- bits 0, 1 and 2 of 02Fh, as a write sets them: none where it names no place
abbrev pub asked_at : Option Target → ℕ → ℕ → Resets
asked_at None offset width = no_resets
asked_at (Some t) offset width = resets_of offset width t.edit

-- no other step resets
abbrev pub asked : Step → Resets
asked (read offset width) = no_resets
asked (write offset width value) = asked_at (target_of offset width value) offset width
asked card_in = no_resets
asked card_out = no_resets
asked (response result words) = no_resets
asked (block_given block) = no_resets
asked (block_taken room) = no_resets
asked busy_over_step = no_resets
asked (data_error_step number) = no_resets
asked (level up) = no_resets
asked turn = no_resets

-- what a step leaves; Present State is told by these two, so it "keeps its bits"
pub record OnlyResets (w : World) (e : Step) : Type 0 where
  -- a halted use is freed by bit 0 or 2 of 02Fh, and by nothing else
  pub use_stays : is_halted w.slot.dat ≡ true → ((asked e).all || (asked e).«data») ≡ false → (step_of w e).world.slot.dat ≡ w.slot.dat
  -- a halted command, by bit 0 or 1
  pub command_stays : w.slot.command ≡ Halted → ((asked e).all || (asked e).command) ≡ false → (step_of w e).world.slot.command ≡ Halted
