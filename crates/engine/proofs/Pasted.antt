-- A list after a copy into it: what stands where the bytes went, and that the rest is as it was. Assumes nothing.
use Prim.Native.Nat.{ℕ, ◌+◌, ◌-◌, ◌≤◌}
use native.Mathlib.Nat.{add-zero, add_assoc}
use native.Mathlib.Omega.{arith}
use mathlib.Core.Path.{◌≡◌, sym, ◌∙◌}
use mathlib.Core.Logic.{◌⊎◌, inl, inr}
use mathlib.Core.List.{List, ◌++◌, append_assoc}
use lib.ListN.{length, get_or, take, drop, length-drop, take-append-drop}
use lib.Seq.{paste, take_at, take-add, take-append-le, drop_at, drop-drop, drop-append-le, take-paste, drop-paste, length-take-le, get_or-drop, get_or-take}

-- ---- a copy in two parts

-- so many bytes from a place are the first of them, and the rest
pub part_add : (mem : List ℕ) (at k n : ℕ) → take (k + n) (drop at mem) ≡ take k (drop at mem) ++ take n (drop (at + k) mem)
part_add mem at k n = rw (take-add, drop-drop)

-- what is left of a source whose first bytes are copied
pub drop_add : (b more : List ℕ) (k n : ℕ) → k ≤ length b → drop n (drop k b ++ more) ≡ drop (k + n) (b ++ more)
drop_add b more k n h = rw (← drop-append-le k b more h, drop-drop)

-- the first bytes are copied, and then the rest behind them
pub paste_add : (mem b more : List ℕ) (at k n : ℕ) → at + k ≤ length mem → k ≤ length b
    → paste (paste mem at b k) (at + k) (drop k b ++ more) n ≡ paste mem at (b ++ more) (k + n)
paste_add mem b more at k n h hb =
    rw (
      take-paste mem at b k (omega arith) hb,
      ← drop-drop n (at + k) (paste mem at b k),
      drop-paste mem at b k (omega arith) hb,
      drop-drop n (at + k) mem,
      take-add k n (b ++ more),
      take-append-le k b more hb,
      drop-append-le k b more hb,
      add_assoc at k n,
      append_assoc (take at mem) (take k b) (take n (drop k b ++ more)),
    )

-- ---- what a copy leaves

module _ (mem b : List ℕ) (at k : ℕ) (fits : at + k ≤ length mem) (enough : k ≤ length b) where
  -- where the bytes went, they stand
  pub paste_there : take k (drop at (paste mem at b k)) ≡ take k b
  paste_there =
      rw (
        append_assoc (take at mem) (take k b) (drop (at + k) mem),
        drop_at (take at mem) (take k b ++ drop (at + k) mem) at (length-take-le at mem (omega arith)),
        take_at (take k b) (drop (at + k) mem) k (length-take-le k b enough),
      )

  -- before them
  before : (rest : List ℕ) (t n : ℕ) → t + n ≤ at → take n (drop t (take at mem ++ rest)) ≡ take n (drop t (take at mem))
  before rest t n h =
      let l : length (take at mem) ≡ at = length-take-le at mem (omega arith) in
      rw (drop-append-le t (take at mem) rest (omega arith), take-append-le n (drop t (take at mem)) rest (omega (arith, length-drop t (take at mem))))

  -- bytes before or behind them are as they were
  pub paste_apart : (t n : ℕ) → (t + n ≤ at) ⊎ (at + k ≤ t) → take n (drop t (paste mem at b k)) ≡ take n (drop t mem)
  paste_apart t n (inl h) =
      rw (append_assoc (take at mem) (take k b) (drop (at + k) mem), before (take k b ++ drop (at + k) mem) t n h)
      (sym (before (drop at mem) t n h) ∙ rw (take-append-drop at mem))
  paste_apart t n (inr h) =
      let e : t ≡ at + k + (t - (at + k)) = omega arith in
      rw (e, ← drop-drop (t - (at + k)) (at + k) (paste mem at b k), drop-paste mem at b k (omega arith) enough, drop-drop (t - (at + k)) (at + k) mem)

  -- and so is a single byte
  pub paste_byte : (i : ℕ) → (i + 1 ≤ at) ⊎ (at + k ≤ i) → get_or (paste mem at b k) i 0 ≡ get_or mem i 0
  paste_byte i h = rw (byte (paste mem at b k) i, paste_apart i 1 h) (sym (byte mem i))
    where
      byte : (l : List ℕ) (i : ℕ) → get_or l i 0 ≡ get_or (take 1 (drop i l)) 0 0
      byte l i = rw (get_or-take 1 (drop i l) 0 0 (omega arith), get_or-drop i l 0 0, add-zero)
