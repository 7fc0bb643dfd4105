-- A move keeps what is to be carried, and pays for its turn: of a write, and of a read. Assumes nothing.
use Prim.Native.Nat.{ℕ, zero, suc, ◌+◌, ◌-◌, ◌≤◌, ◌<◌}
use native.Mathlib.Omega.{arith}
use mathlib.Core.Path.{◌≡◌, refl, ◌∙◌}
use mathlib.Core.List.{List, [], ◌∷◌, ◌++◌, append_assoc}
use lib.ListN.{length, take, drop, length-append, length-drop}
use lib.Seq.{paste, paste-zero, length-take-le}
use Rattle.table.specs.Line.{line_size}
use Rattle.table.specs.Trace.{Area, named_bytes, fill}
use Rattle.engine.specs.Demand.{Clear, Outside}
use Rattle.engine.proofs.Coming.{area, left_over}
use Rattle.engine.proofs.Invariant.{Goal, Cargo, Writing, Reading}
use Rattle.engine.proofs.Pasted.{part_add, drop_add, paste_add, paste_byte}
use Rattle.engine.proofs.Alike.{off_front, off_rest}

-- ---- an area of which nothing is left is no area

over_bytes : (mem : List ℕ) (at n : ℕ) (named : List Area) → named_bytes mem (left_over at n named) ≡ take n (drop at mem) ++ named_bytes mem named
unfolding left_over named_bytes
over_bytes mem at zero named = refl
over_bytes mem at (suc n) named = refl

over_fill : (mem : List ℕ) (at n : ℕ) (named : List Area) (b : List ℕ) → fill mem (left_over at n named) b ≡ fill (paste mem at b n) named (drop n b)
unfolding left_over fill
over_fill mem at zero named b = rw (← paste-zero mem at b)
over_fill mem at (suc n) named b = refl

over_outside : (i at n : ℕ) (named : List Area) → Outside i (area at n ∷ named) → Outside i (left_over at n named)
unfolding left_over
over_outside i at zero named o = o.1
over_outside i at (suc n) named o = o

over_clear : (at n : ℕ) (named : List Area) (lines : List ℕ) → Clear lines (area at n ∷ named) → Clear lines (left_over at n named)
unfolding left_over
over_clear at zero named [] c = tt
over_clear at zero named (t ∷ lines) c = (c.0.1, over_clear at zero named lines c.1)
over_clear at (suc n) named lines c = c

-- what is left of an area covers no line if the area covers none
rest_clear : (at k n : ℕ) (named : List Area) (lines : List ℕ) → Clear lines (area at (k + n) ∷ named) → Clear lines (area (at + k) n ∷ named)
rest_clear at k n named [] c = tt
rest_clear at k n named (t ∷ lines) c = ((off_rest at k n t line_size c.0.0, c.0.1), rest_clear at k n named lines c.1)

-- ---- the cargo after a move

-- so many bytes are owed no longer, with what is then held and memory
abbrev pub moved_cargo : Cargo → ℕ → List ℕ → List ℕ → Cargo
moved_cargo c k held memory = record { left = c.left; owed = c.owed - k; held = held; memory = memory; passed = c.passed }

-- a write: bytes from an address go behind those held
abbrev pub loaded : Cargo → ℕ → ℕ → Cargo
loaded c at k = moved_cargo c k (c.held ++ take k (drop at c.memory)) c.memory

-- a read: the first bytes held go to an address
abbrev pub unloaded : Cargo → ℕ → ℕ → Cargo
unloaded c at k = moved_cargo c k (drop k c.held) (paste c.memory at c.held k)

-- all of them are there
pub loaded_length : (c : Cargo) (at k : ℕ) → at + k ≤ length c.memory → length (loaded c at k).held ≡ length c.held + k
loaded_length c at k h =
    rw (length-append c.held (take k (drop at c.memory)), length-take-le k (drop at c.memory) (omega (arith, length-drop at c.memory)))

-- ---- so many bytes of the line in hand are moved and so many are left, with the turns spent before and after
module _ (G : Goal) (c : Cargo) (at k n : ℕ) (named : List Area) (before after : ℕ) (fits : at + (k + n) ≤ length c.memory)
    (most : after ≤ suc before) (done : n ≡ 0 → after ≤ before) where
  -- where the line is not done the buffer is full
  pub load_side : length c.held < G.size → (length c.held + k < G.size → n ≡ 0) → Writing G c (area at (k + n) ∷ named) before
      → Writing G (loaded c at k) (left_over (at + k) n named) after
  unfolding named_bytes
  load_side room full i =
      let p = i.spare room in
      record {
        paid = omega arith;
        spare = λ h. omega (arith, done (full (omega (arith, loaded_length c at k (omega arith)))));
        same = i.same;
        carried =
            rw (
              over_bytes c.memory (at + k) n named,
              append_assoc c.held (take k (drop at c.memory)) (take n (drop (at + k) c.memory) ++ named_bytes c.memory named),
              ← append_assoc (take k (drop at c.memory)) (take n (drop (at + k) c.memory)) (named_bytes c.memory named),
              ← part_add c.memory at k n,
            )
            i.carried;
      }

  -- where the line is not done the buffer is empty
  pub unload_side : (lines : List ℕ) → 0 < length c.held → k ≤ length c.held → (k < length c.held → n ≡ 0)
      → Reading G c lines (area at (k + n) ∷ named) before → Reading G (unloaded c at k) lines (left_over (at + k) n named) after
  unfolding fill
  unload_side lines holds enough empty i =
      let p = i.spare holds in
      record {
        paid = omega arith;
        spare = λ h. omega (arith, done (empty (omega (arith, length-drop k c.held))));
        clear = over_clear (at + k) n named lines (rest_clear at k n named lines i.clear);
        others = λ j o.
            let q = i.others j o in (
              over_outside j (at + k) n named (off_rest at k n j 1 q.0.0, q.0.1),
              paste_byte c.memory c.held at k (omega arith) enough j (off_front at k n j 1 q.0.0) ∙ q.1,
            );
        carried = λ more.
            rw (
              over_fill (paste c.memory at c.held k) (at + k) n named (drop k c.held ++ more),
              paste_add c.memory c.held more at k n (omega arith) enough,
              drop_add c.held more k n enough,
            )
            (i.carried more);
      }
