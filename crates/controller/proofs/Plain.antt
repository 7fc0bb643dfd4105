-- A write that issues no command is the register block's own: its answer and the block after it. So what `registers` says of such writes (row 1, row 2, "Bytes
-- of one access take effect in rising offset") holds of the controller. Assumes nothing.
use Prim.Native.Nat.{ℕ}
use mathlib.Core.Path.{◌≡◌, refl}
use mathlib.Core.Bool.{Bool, true, false, cond}
use Rattle.std.specs.Prelude.{Option, Some, None, Ok, Err}
use Rattle.terms.specs.declared.Refusal.TheVariants.{DatInhibited}
use Rattle.registers.specs.Place.{issues, target_of}
use Rattle.registers.specs.Word.{inhibits}
use Rattle.registers.specs.Reset.{resets_of}
use Rattle.registers.specs.Access as block
use Rattle.registers.specs.declared.place.Target.{Target}
use Rattle.controller.specs.Slot.{use_of, facts_of, stepped_as}
use Rattle.controller.specs.Access.{store_of, write_at, write_of}
use Rattle.controller.specs.declared.slot.Slot.{Slot}
use Rattle.controller.specs.Slot.{Stepped}

-- the answer and the block are those of a write to the block
abbrev pub Plain : Slot → Stepped → block.Written → Type 0
Plain s r b = (r.answer ≡ b.answer) × (r.slot.registers ≡ b.registers)

pub plain_write : (s : Slot) (offset width value : ℕ) → issues offset width ≡ false
    → Plain s (write_of s offset width value) (block.write_of s.registers (facts_of s) offset width value)
plain_write s offset width value h = go (target_of offset width value)
  where
    go : (t : Option Target) → Plain s (write_at t s offset width) (block.write_at t (inhibits (use_of s.dat) offset width) (facts_of s) s.registers)
    go None = (refl, refl)
    go (Some t) = rw h (held (inhibits (use_of s.dat) offset width))
      where
        held : (b : Bool)
            → Plain s (cond b (stepped_as (Err DatInhibited) s) (stepped_as (Ok 0) (store_of s t.word t.edit (resets_of offset width t.edit))))
            (cond b (block.written_as (Err DatInhibited) s.registers) (block.written_as (Ok 0) (block.take_of t.word t.edit (facts_of s) s.registers)))
        held true = (refl, refl)
        held false = (refl, refl)
