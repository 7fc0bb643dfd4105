-- A written line is eight bytes, and reading it gives back its flags, length and address. Assumes nothing.
use Prim.Native.Nat.{ℕ, ◌+◌, ◌*◌, ◌/◌, ◌%◌, ◌^◌, ◌≤◌, ◌<◌}
use native.Mathlib.Nat.{eq-or-lt_of_le}
use native.Mathlib.Omega.{arith}
use mathlib.Core.Logic.{◌⊎◌, inl, inr, ◌≢◌, ⊎_elim}
use mathlib.Core.Path.{◌≡◌, refl}
use mathlib.Core.List.{List}
use mathlib.Core.Bool.{Bool, true, false, cond, ◌&&◌}
use lib.ListN.{length}
use lib.Dec.{leb, eqb}
use borrow.Author.Tests.{leb-true, leb-false, eqb-true, eqb-false, eq-eqb, ne_eqb}
use Rattle.terms.specs.Counts.{bytes}
use Rattle.terms.specs.Answers.{number_of, value_of}
use Rattle.std.specs.Prelude.{⊤, Result, Ok, Err}
use Rattle.terms.specs.declared.Refusal.{Refusal}
use Rattle.terms.specs.declared.Refusal.TheVariants.{LineRefused}
use Rattle.table.specs.Line.{line_size, byte_of, length_of, address_of, flags_of, read_of}
use Rattle.terms.specs.Flag.{unit_of}
use Rattle.table.specs.Written.{flag_byte, line_of, writable, write_of, line_answer}
use Rattle.table.specs.declared.line.Line.{Line}

-- "length 0 or over 65,536", or "address not a multiple of 4"
abbrev pub Unfit : Line → Type 0
Unfit l = (l.length.0 ≡ 0) ⊎ (65536 < l.length.0) ⊎ (l.address % 4 ≢ 0)

-- what the test `writable` says of a line
pub data Fits (l : Line) : Bool → Type 0 where
  fit : 0 < l.length.0 → l.length.0 ≤ 65536 → l.address % 4 ≡ 0 → Fits l true
  unfit : Unfit l → Fits l false

fits : (l : Line) → Fits l (writable l)
fits l = go (leb 1 l.length.0) (leb l.length.0 65536) (eqb (l.address % 4) 0) refl refl refl
  where
    go : (t u v : Bool) → leb 1 l.length.0 ≡ t → leb l.length.0 65536 ≡ u → eqb (l.address % 4) 0 ≡ v → Fits l (t && (u && v))
    go true true true d e f = fit (leb-true _ _ d) (leb-true _ _ e) (eqb-true _ _ f)
    go true true false d e f = unfit (inr (inr (eqb-false _ _ f)))
    go true false v d e f = unfit (inr (inl (leb-false _ _ e)))
    go false u v d e f = unfit (inl (omega (arith, leb-false)))

-- what becomes of a room: it takes a line that fits, or it stays
pub data Written (room : List ℕ) (l : Line) : Result ⊤ Refusal × List ℕ → Type 0 where
  taken : length room ≡ line_size → Fits l true → Written room l (Ok tt, line_of l)
  kept : (length room ≢ line_size) ⊎ Unfit l → Written room l (Err LineRefused, room)

pub written : (room : List ℕ) (l : Line) → Written room l (write_of room l)
written room l = go (eqb (length room) line_size) (writable l) refl (fits l)
  where
    go : (t u : Bool) → eqb (length room) line_size ≡ t → Fits l u → Written room l (cond (t && u) (Ok tt, line_of l) (Err LineRefused, room))
    go true true e f = taken (eqb-true _ _ e) f
    go true false e (unfit w) = kept (inr w)
    go false u e f = kept (inl (eqb-false _ _ e))

unit_le : (b : Bool) → unit_of b ≤ 1
unit_le true = omega arith
unit_le false = omega arith

unit_back : (b : Bool) (n : ℕ) → n ≡ unit_of b → eqb n 1 ≡ b
unit_back true n e = eq-eqb n 1 e
unit_back false n e = ne_eqb n 1 (omega arith)

-- two bytes, read as 16 bits
halves : (n : ℕ) → n % 256 + 256 * (n / 256 % 256) ≡ n % 65536
halves n = let p : n / 65536 ≡ n / 256 / 256 = omega arith in omega arith

module _ (l : Line) where
  flags_back : flags_of (line_of l) ≡ l.flags
  unfolding flags_of byte_of
  flags_back =
      let f = l.flags in
      let v = unit_le f.valid in
      let e = unit_le f.end in
      let i = unit_le f.int in
      let a = unit_le f.act1 in
      let b = unit_le f.act2 in
      λ j. record {
        valid = unit_back f.valid (flag_byte f % 2) (omega arith) j;
        end = unit_back f.end (flag_byte f / 2 % 2) (omega arith) j;
        int = unit_back f.int (flag_byte f / 4 % 2) (omega arith) j;
        act1 = unit_back f.act1 (flag_byte f / 16 % 2) (omega arith) j;
        act2 = unit_back f.act2 (flag_byte f / 32 % 2) (omega arith) j;
      }

  length_back : 0 < l.length.0 → l.length.0 ≤ 65536 → length_of (line_of l) ≡ l.length.0
  unfolding length_of byte_of
  length_back low high =
      rw (halves l.length.0)
      (⊎_elim (λ e. rw e) (λ h. simp (ne_eqb (l.length.0 % 65536) 0 (omega arith)) (omega arith)) (eq-or-lt_of_le high))

  address_back : l.address % 4 ≡ 0 → l.address < 2 ^ 32 → address_of (line_of l) ≡ l.address
  unfolding address_of byte_of
  address_back even small =
      let q : l.address / 16777216 ≡ l.address / 65536 / 256 = omega arith in
      let whole : l.address % 65536 + 65536 * (l.address / 65536 % 65536) ≡ l.address = omega arith in
      rw (q, halves l.address, halves (l.address / 65536), whole) (omega arith)

  fit_back : Fits l true → l.address < 2 ^ 32 → read_of (line_of l) ≡ l
  fit_back (fit low high even) small = λ j. record { flags = flags_back j; length = bytes (length_back low high j); address = address_back even small j }

-- a line written or refused has value 0
pub line_value : (r : Result ⊤ Refusal) → value_of (line_answer r) ≡ 0
line_value (Ok done) = refl
line_value (Err refusal) = refl

-- and its number is that of what became of it
pub line_number : (r : Result ⊤ Refusal) → number_of (line_answer r) ≡ number_of r
line_number (Ok done) = refl
line_number (Err refusal) = refl

-- "reading it gives these back"
pub read_back : (l : Line) → writable l ≡ true → l.address < 2 ^ 32 → read_of (line_of l) ≡ l
read_back l w = fit_back l (rw w at (fits l))

-- a line that was written reads back from the room
pub write_read : (room : List ℕ) (l : Line) → l.address < 2 ^ 32 → number_of (write_of room l).0 ≡ 0 → read_of (write_of room l).1 ≡ l
write_read room l small = go (written room l)
  where
    go : {r : Result ⊤ Refusal × List ℕ} → Written room l r → number_of r.0 ≡ 0 → read_of r.1 ≡ l
    go (taken e f) h = fit_back l f small
    go (kept w) h = absurd (omega arith)
