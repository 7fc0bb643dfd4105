-- What `put` leaves of a room, and of a part that is cut from a longer list. Assumes nothing.
use Prim.Native.Nat.{ℕ, ◌+◌, ◌-◌, ◌≤◌}
use native.Mathlib.Omega.{arith}
use mathlib.Core.Path.{◌≡◌}
use mathlib.Core.List.{List, ◌++◌, append-nil, append_assoc}
use lib.ListN.{length, take, drop, length-drop, drop_of_length-le}
use lib.Seq.{paste, take_all, drop-drop, take-take, length-take-le}

-- the rest of a room from a place on, filled from its front and back in its place
pub put_paste : (r p : List ℕ) (at n : ℕ) → at + n ≤ length r
    → take at r ++ ((take n p ++ drop n (take (length r - at) (drop at r))) ++ drop (length r - at) (drop at r)) ≡ paste r at p n
put_paste r p at n h =
    rw (
      take_all (length r - at) (drop at r) (omega (arith, length-drop at r)),
      drop_of_length-le (drop at r) {i = length r - at} (omega (arith, length-drop at r)),
      append-nil,
      drop-drop,
      append_assoc,
    )

-- the front of a list, put whole
pub put_front : (b m : List ℕ) (h k : ℕ) → k ≤ length m → paste b h (take k m) (length (take k m)) ≡ paste b h m k
put_front b m h k hm = rw (length-take-le k m hm, take-take k k m (omega arith))

-- a part of a list, put whole: so many elements from its start
pub put_part : (b m : List ℕ) (h a k : ℕ) → a + k ≤ length m
    → paste b h (take (a + k - a) (drop a m)) (length (take (a + k - a) (drop a m))) ≡ paste b h (drop a m) k
put_part b m h a k hm =
    let e : a + k - a ≡ k = omega arith in
    rw e (put_front b (drop a m) h k (omega (arith, length-drop a m)))
