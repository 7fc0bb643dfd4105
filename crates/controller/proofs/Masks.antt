-- What 058h and Block Count hold after a step: bits of their own, as long as memory is bytes. Assumes nothing.
use Prim.Native.Nat.{ℕ, zero, suc, ◌+◌, ◌-◌, ◌*◌, ◌/◌, ◌%◌, ◌^◌, ◌≤◌, ◌<◌}
use native.Mathlib.Omega.{arith}
use mathlib.Core.Path.{◌≡◌, sym, ◌∙◌, ap}
use mathlib.Core.Logic.{◌↔◌}
use mathlib.Core.List.{List, [], ◌∷◌, ◌++◌}
use lib.ListN.{length, get_or, take, drop}
use lib.Seq.{paste}
use lib.Bits.{bit_and, and_le_l, and_high, and_block, and_mask}
use lib.Pow.{split}
use lib.Dec.{eqb, ltb, lit<}
use borrow.Author.Tests.{eqb-false}
use Rattle.table.specs.Memory.{memory_limit, in_memory}
use Rattle.table.specs.Line.{line_size, line_bytes, byte_of, length_of, address_of, flags_of, act_of}
use Rattle.table.specs.Fetch.{acted_of, fetch_of}
use Rattle.controller.proofs.Names.{ByteCount, Fetched, Act, Tran, Link, Other}
use Rattle.table.proofs.Laws.{line_there}
use Rattle.registers.specs.Bits.{without}
use Rattle.registers.specs.Word.{block_bits, low_bits}
use Rattle.registers.proofs.Sets.{no_bits, bit_without}
use Rattle.registers.proofs.Derived.{Within, and_within}
use Rattle.engine.specs.Turn.{seen_table}
use Rattle.controller.specs.Data.{fallen_block}
use Rattle.controller.proofs.Causes.{by_test}

-- ---- words as masks

-- a set lies within a mask exactly when the mask takes nothing from it
pub within_exactly : (a mask : ℕ) → Within a mask ↔ (bit_and a mask ≡ a)
unfolding without
within_exactly a mask = (to, λ e. rw e at (and_within a mask))
  where
    to : Within a mask → bit_and a mask ≡ a
    to h =
        let z : a - bit_and a mask ≡ 0 = no_bits (without a mask) (λ k. bit_without a mask k ∙ h k) in
        let l = and_le_l a mask in
        omega arith

-- 058h: "bits 1-0 read as 0"
pub low_exactly : (n : ℕ) → Within n low_bits ↔ ((n % 4 ≡ 0) × (n < 2 ^ 32))
low_exactly n =
    let e = and_high n 30 2 in
    (λ h. let f = (within_exactly n low_bits).0 h in omega arith, λ (a, b). (within_exactly n low_bits).1 (omega arith))

-- 004h and 006h: "004h bits 14-0; 006h"
pub block_exactly : (n : ℕ) → Within n block_bits ↔ ((n / 65536 < 65536) × (n % 65536 < 32768))
block_exactly n =
    let e : bit_and n block_bits ≡ n / 65536 % 65536 * 65536 + n % 65536 % 32768 =
    ap (λ (m : ℕ). bit_and m block_bits) (sym (split n 16))
    ∙ and_block 16 (n / 65536) 65535 (n % 65536) 32767 (omega arith) (lit< tt)
    ∙ rw (and_mask (n / 65536) 16, and_mask (n % 65536) 15) in
    (λ h. let f = (within_exactly n block_bits).0 h in omega arith, λ (a, b). (within_exactly n block_bits).1 (omega arith))

-- "Block Count, which falls by one": a count of blocks still
pub fallen_within : (n : ℕ) → Within n block_bits → Within (fallen_block n) block_bits
fallen_within n h =
    let (a, b) = (block_exactly n).0 h in
    by_test (λ (m : ℕ). Within m block_bits) (eqb (n / 65536) 0) (λ e. h)
    (λ e. let z = eqb-false (n / 65536) 0 e in (block_exactly (n - 65536)).1 (omega arith))

-- ---- what is lent is bytes

-- every element is below 256
pub data Bytes : List ℕ → Type 0 where
  none : Bytes []
  more : {b : ℕ} {l : List ℕ} → b < 256 → Bytes l → Bytes (b ∷ l)

bytes_join : {l m : List ℕ} → Bytes l → Bytes m → Bytes (l ++ m)
bytes_join none g = g
bytes_join (more small h) g = more small (bytes_join h g)

bytes_take : (n : ℕ) {l : List ℕ} → Bytes l → Bytes (take n l)
bytes_take zero h = none
bytes_take (suc n) none = none
bytes_take (suc n) (more small h) = more small (bytes_take n h)

-- the rest of bytes
pub bytes_drop : (n : ℕ) {l : List ℕ} → Bytes l → Bytes (drop n l)
bytes_drop zero h = h
bytes_drop (suc n) none = none
bytes_drop (suc n) (more small h) = bytes_drop n h

-- bytes copied among bytes
pub bytes_paste : {d : List ℕ} (at : ℕ) {s : List ℕ} (n : ℕ) → Bytes d → Bytes s → Bytes (paste d at s n)
bytes_paste at n h g = bytes_join (bytes_join (bytes_take at h) (bytes_take n g)) (bytes_drop (at + n) h)

bytes_at : {l : List ℕ} (i : ℕ) → Bytes l → get_or l i 0 < 256
bytes_at i none = omega arith
bytes_at zero (more small h) = small
bytes_at (suc i) (more small h) = bytes_at i h

-- ---- 058h after a fetch

byte_small : (l : List ℕ) (i : ℕ) → Bytes l → byte_of l i < 256
unfolding byte_of
byte_small l i h = by_test (λ (b : ℕ). b < 256) (eqb (length l) line_size) (λ e. bytes_at i h) (λ e. omega arith)

-- "bytes 4-7 address, low two bits taken as 0"
address_low : (l : List ℕ) → Bytes l → Within (address_of l) low_bits
unfolding address_of
address_low l h =
    let a = byte_small l 4 h in
    let b = byte_small l 5 h in
    let c = byte_small l 6 h in
    let d = byte_small l 7 h in
    (low_exactly _).1 (omega arith)

line_bytes_lem : (mem : List ℕ) (at : ℕ) → Bytes mem → Bytes (line_bytes mem at)
line_bytes_lem mem at h = by_test Bytes (in_memory (length mem) at line_size) (λ e. bytes_take line_size (bytes_drop at h)) (λ e. none)

-- "058h stays"; "058h grows by 8, or takes the address for Link"
pub fetch_low : (mem : List ℕ) (at : ℕ) (owed : ByteCount) → length mem ≤ memory_limit → Bytes mem → Within at low_bits
    → Within (seen_table (fetch_of mem at owed)) low_bits
unfolding fetch_of
fetch_low mem at owed m h low =
    let (a, b) = (low_exactly at).0 low in
    by_test P (flags_of l).valid
    (λ e. let there = line_there mem at e in acted (act_of (flags_of l)) ((low_exactly (at + line_size)).1 (omega arith))) (λ e. low)
  where
    l : List ℕ
    l = line_bytes mem at

    P : Fetched → Type 0
    P f = Within (seen_table f) low_bits

    acted : (act : Act) → Within (at + line_size) low_bits → P (acted_of act l at (length mem) owed)
    acted Tran next =
        by_test P (ltb owed.0 (length_of l)) (λ a. next) (λ a. by_test P (in_memory (length mem) (address_of l) (length_of l)) (λ b. next) (λ b. next))
    acted Link next = address_low l (line_bytes_lem mem at h)
    acted Other next = next
