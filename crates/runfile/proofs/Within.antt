-- The sections of a layout are within the limits and fill the file. Assumes nothing.
use Prim.Native.Nat.{ℕ, ◌+◌, ◌*◌, ◌≤◌}
use mathlib.Core.Path.{◌≡◌, refl, sym}
use mathlib.Core.List.{List}
use mathlib.Core.Bool.{Bool, true, false, cond}
use lib.ListN.{length}
use lib.Dec.{eqb, ltb}
use borrow.Author.Tests.{ltb-false, eqb-true}
use Rattle.std.specs.Prelude.{Option, Some, None}
use Rattle.runfile.specs.declared.file.Layout.{Layout}
use Rattle.runfile.specs.File.{memory_most, steps_most, card_most, step_size, word_at, laid, layout_of, steps_base, steps_good, laid_good, good_of}

abbrev pub Within : List ℕ → Option Layout → Type 0
Within file None = Unit
Within file (Some l) = (l.memory ≤ 32768) × (l.steps ≤ 512) × (12 + l.memory + 20 * l.steps + l.card ≡ length file)

pub laid_within : (file : List ℕ) → Within file (layout_of file)
unfolding layout_of
laid_within file =
    let m = word_at file 0 in
    let s = word_at file (4 + m) in
    let d = word_at file (8 + m + step_size * s) in
    go m s d (ltb memory_most m) (ltb steps_most s) (ltb card_most d) (eqb (length file) (12 + m + step_size * s + d)) refl refl refl
  where
    go : (m s d : ℕ) (t u v w : Bool) → ltb memory_most m ≡ t → ltb steps_most s ≡ u → eqb (length file) (12 + m + step_size * s + d) ≡ w
        → Within file (cond t None (cond u None (cond v None (cond w (Some (laid m s d)) None))))
    go m s d true u v w e f g = tt
    go m s d false true v w e f g = tt
    go m s d false false true w e f g = tt
    go m s d false false false false e f g = tt
    go m s d false false false true e f g = (ltb-false _ _ e, ltb-false _ _ f, sym (eqb-true _ _ g))

pub good_within : (file : List ℕ) → Within file (good_of file)
good_within file = go (layout_of file) (laid_within file)
  where
    kept : (l : Option Layout) (t : Bool) → Within file l → Within file (cond t l None)
    kept l true h = h
    kept l false h = tt

    go : (l : Option Layout) → Within file l → Within file (laid_good l file)
    go None h = tt
    go (Some l) h = kept (Some l) (steps_good file (steps_base l.memory) l.steps) h
