-- The buffer's bytes as the list that it holds: a move, a block given and a block taken. Assumes nothing.
use Prim.Native.Nat.{ℕ, ◌+◌, ◌-◌, ◌≤◌}
use native.Mathlib.Omega.{arith}
use mathlib.Core.Path.{◌≡◌, refl, sym, ap, ◌∙◌}
use mathlib.Core.List.{List, [], ◌++◌}
use lib.ListN.{length, take, drop, length-append, length-drop}
use lib.Seq.{paste, length-paste, take-paste, take-take, take_all, take_at, drop_at, length-take-le}
use Rattle.terms.specs.Counts.{bytes}
use Rattle.engine.specs.Buffer.{block_of, held_of}
use Rattle.engine.proofs.Names.{Way, Read, Write}
use Rattle.engine.proofs.Pasted.{part_add}

-- a write fills a block from the front, a read empties it to the back
abbrev pub lying : Way → ℕ → ℕ → List ℕ → List ℕ
lying Write size n x = take n x
lying Read size n x = take n (drop (size - n) x)

-- a buffer that has room for a block holds these bytes
pub record Shown (way : Way) (size : ℕ) (held x : List ℕ) : Type 0 where
  pub room : size ≤ length x
  pub lies : lying way size (length held) x ≡ held

-- no less is lent than a block, and no more is held than one
pub block_is : (size : ℕ) (x : List ℕ) → size ≤ length x → (block_of size (length x)).0 ≡ size
block_is size x h = omega arith

pub held_is : (size : ℕ) (held x : List ℕ) → size ≤ length x → length held ≤ size → (held_of size (length x) (bytes (length held))).0 ≡ length held
held_is size held x h w = omega arith

-- a buffer that holds nothing
pub none_shown : (way : Way) (size : ℕ) (x : List ℕ) → size ≤ length x → Shown way size [] x
none_shown Write size x h = record { room = h; lies = refl }
none_shown Read size x h = record { room = h; lies = refl }

module _ (size : ℕ) (held x : List ℕ) where
  -- a write puts bytes behind those held
  pub load_shown : (mem : List ℕ) (at k : ℕ) → length held + k ≤ size → at + k ≤ length mem → Shown Write size held x
      → Shown Write size (held ++ take k (drop at mem)) (paste x (length held) (drop at mem) k)
  load_shown mem at k fits lies i =
      let d : k ≤ length (drop at mem) = omega (arith, length-drop at mem) in
      let h : length held + k ≤ length x = omega (arith, i.room) in
      record {
        room = omega (arith, i.room, length-paste x (length held) (drop at mem) k h d);
        lies =
            rw (
              length-append held (take k (drop at mem)),
              length-take-le k (drop at mem) d,
              take-paste x (length held) (drop at mem) k (omega arith) d,
              i.lies,
            );
      }

  -- a read takes the first bytes held
  pub unload_shown : (k : ℕ) → k ≤ length held → length held ≤ size → Shown Read size held x → Shown Read size (drop k held) x
  unload_shown k fits within i =
      let n : ℕ = length held - k in
      let at : ℕ = size - length held in
      let e : k + n ≡ length held = omega arith in
      let b : size - n ≡ at + k = omega arith in
      let front : length (take k (drop at x)) ≡ k = length-take-le k (drop at x) (omega (arith, length-drop at x, i.room)) in
      let split : take k (drop at x) ++ take n (drop (at + k) x) ≡ held = rw (← part_add x at k n, e) i.lies in
      record {
        room = i.room;
        lies = rw (length-drop k held, b) (sym (drop_at (take k (drop at x)) (take n (drop (at + k) x)) k front) ∙ ap (drop k) split);
      }

  -- and these go to memory
  pub unload_memory : (mem : List ℕ) (at k : ℕ) → k ≤ length held → Shown Read size held x
      → paste mem at (drop (size - length held) x) k ≡ paste mem at held k
  unload_memory mem at k fits i =
      ap (λ (l : List ℕ). take at mem ++ l ++ drop (at + k) mem)
      (sym (take-take k (length held) (drop (size - length held) x) fits) ∙ ap (take k) i.lies)

  -- a block that is taken is what was held
  pub take_shown : (room : List ℕ) → length held ≡ size → Shown Write size held x → take size (paste room 0 x size) ≡ held
  take_shown room full i = take_at (take size x) (drop (0 + size) room) size (length-take-le size x i.room) ∙ rw full at i.lies

-- a block that was given is what is held
pub give_shown : (size : ℕ) (block x : List ℕ) → length block ≡ size → size ≤ length x → Shown Read size block (paste x 0 block (length block))
give_shown size block x full h =
    let z : size - length block ≡ 0 = omega arith in
    record {
      room = omega (arith, length-paste x 0 block (length block) (omega arith) (omega arith));
      lies =
          rw z (take_at (take (length block) block) (drop (0 + length block) x) (length block) (length-take-le (length block) block (omega arith))
          ∙ take_all (length block) block (omega arith));
    }
