-- "unassigned bits read 0": in each stored word only its own bits stand (`Clean`), at power-on and after every step of the block. Assumes nothing.
use Prim.Native.Nat.{ℕ, zero, suc, ◌+◌, ◌*◌, ◌%◌, ◌<◌}
use native.Mathlib.Nat.{mod-lt}
use native.Mathlib.Omega.{arith}
use mathlib.Core.Path.{◌≡◌, refl, sym, ◌∙◌}
use mathlib.Core.Bool.{Bool, true, false, ◌&&◌, false≢true}
use lib.Bits.{bit_and, bit_or}
use lib.Dec.{eqb, ltb, lit<}
use borrow.Author.Tests.{lt-ltb}
use Rattle.std.specs.Prelude.{Option, Some, None}
use Rattle.registers.specs.Bits.{bit_of, field, bit, without, put}
use Rattle.registers.specs.Place.{target_of}
use Rattle.registers.specs.Interrupt.{event_set, acknowledged, carried, card_bit, error_bit, shown_status}
use Rattle.registers.specs.Word.{whole_bits, block_bits, order_bits, host_bits, clock_bits, low_bits, in_use, inhibits, mode_kept, stays, clock_after, shown_clock}
use Rattle.registers.specs.Block.{power_on, with_setup, with_control, with_interrupts, with_adma, with_clock, unplugged}
use Rattle.registers.specs.Reset.{reset_bits, reset_command, reset_with}
use Rattle.registers.specs.Access.{taker_shown, take_from, take_of, write_at, write_of}
use Rattle.registers.specs.declared.place.Taker.{Taker}
use Rattle.registers.specs.declared.place.Taker.TheVariants.{System, Block, Argument, Order, Host, Clock, Status, Enabled, Signal, Force, Low, High}
use Rattle.registers.specs.declared.place.Word.{Word}
use Rattle.registers.specs.declared.place.Word.TheVariants.{Takes, Tells}
use Rattle.registers.specs.declared.place.Edit.{Edit}
use Rattle.registers.specs.declared.place.Target.{Target}
use Rattle.registers.specs.declared.interrupt.Event.{Event}
use Rattle.registers.specs.declared.interrupt.Event.TheVariants.{CommandComplete, TransferComplete}
use Rattle.registers.specs.declared.interrupt.Interrupts.{Interrupts}
use Rattle.registers.specs.declared.reset.Resets.{Resets}
use Rattle.registers.specs.declared.word.Facts.{Facts}
use Rattle.registers.specs.declared.block.Setup.{Setup}
use Rattle.registers.specs.declared.block.Control.{Control}
use Rattle.registers.specs.declared.block.Adma.{Adma}
use Rattle.registers.specs.declared.block.Registers.{Registers}
use Rattle.registers.proofs.Tests.{by_test}
use Rattle.registers.proofs.Sets.{bit_ones}
use Rattle.registers.proofs.Derived.{Within, zero_within, none_within, within_none, or_within, and_within, less_within, wider_within, put_within, stored_within, plain, Kept, kept_start, kept_acknowledge, kept_enable, kept_signal, kept_force}

-- each stored word has no bits but its own
pub record Clean (r : Registers) : Type 0 where
  pub block : Within r.setup.block block_bits
  pub order : Within r.setup.order order_bits
  pub host : Within r.control.host host_bits
  pub clock : Within r.control.clock clock_bits
  pub low : Within r.adma.low low_bits
  pub interrupts : Kept r.interrupts

-- at power-on
pub clean_start : Clean power_on
clean_start =
    record {
      block = zero_within block_bits;
      order = zero_within order_bits;
      host = zero_within host_bits;
      clock = zero_within clock_bits;
      low = zero_within low_bits;
      interrupts = kept_start;
    }

-- ---- one group changed

-- 000h to 00Fh
pub setup_clean : (r : Registers) (s : Setup) → Clean r → Within s.block block_bits → Within s.order order_bits → Clean (with_setup r s)
setup_clean r s h b o = record { block = b; order = o; host = h.host; clock = h.clock; low = h.low; interrupts = h.interrupts }

-- 028h to 02Fh
pub control_clean : (r : Registers) (k : Control) → Clean r → Within k.host host_bits → Within k.clock clock_bits → Clean (with_control r k)
control_clean r k h p c = record { block = h.block; order = h.order; host = p; clock = c; low = h.low; interrupts = h.interrupts }

-- 054h to 05Fh
pub adma_clean : (r : Registers) (a : Adma) → Clean r → Within a.low low_bits → Clean (with_adma r a)
adma_clean r a h l = record { block = h.block; order = h.order; host = h.host; clock = h.clock; low = l; interrupts = h.interrupts }

-- 030h to 03Bh: any step of the interrupts, an event too
pub interrupts_clean : (r : Registers) (i : Interrupts) → Clean r → Kept i → Clean (with_interrupts r i)
interrupts_clean r i h g = record { block = h.block; order = h.order; host = h.host; clock = h.clock; low = h.low; interrupts = g }

-- ---- one word written

-- a word with a bit that stays only with others
settled_within : (card : Bool) (needs one mask : ℕ) (e : Edit) (old : ℕ) → Within old mask
    → Within (put old e.lanes (stays card needs one (bit_and e.bits mask))) mask
unfolding stays
settled_within card needs one mask e old h =
    let new = bit_and e.bits mask in
    put_within old e.lanes (stays card needs one new) mask h
    (by_test (λ (x : ℕ). Within x mask) (card && eqb (bit_and new needs) needs) (λ t. and_within e.bits mask)
    (λ t. less_within new one mask (and_within e.bits mask)))

-- ---- the resets

-- one event's bit cleared, as by bit 1 or bit 2 of 02Fh
pub clean_clear : (event : Event) (r : Registers) → Clean r → Clean (with_interrupts r (acknowledged (event_set event) r.interrupts))
clean_clear event r h = interrupts_clean r _ h (kept_acknowledge (event_set event) r.interrupts h.interrupts)

-- any of the three together
pub clean_reset : (which : Resets) (r : Registers) → Clean r → Clean (reset_with which r)
unfolding reset_with
clean_reset which r h =
    let c = clean_clear CommandComplete r h in
    by_test Clean which.all (λ a. clean_start) (λ a. by_test Clean which.command
    (λ b. by_test Clean which.«data» (λ d. clean_clear TransferComplete (reset_command r) c) (λ d. c))
    (λ b. by_test Clean which.«data» (λ d. clean_clear TransferComplete r h) (λ d. h)))

-- ---- every write

clean_from : (w : Taker) (e : Edit) (inhibited card : Bool) (r : Registers) → Clean r → Clean (take_from w e inhibited card r)
unfolding take_from
clean_from System e inhibited card r h = setup_clean r _ h h.block h.order
clean_from Block e inhibited card r h = setup_clean r _ h (stored_within block_bits e r.setup.block h.block) h.order
clean_from Argument e inhibited card r h = setup_clean r _ h h.block h.order
clean_from Order e inhibited card r h =
    setup_clean r _ h h.block (stored_within order_bits (mode_kept inhibited e) r.setup.order h.order)
clean_from Host e inhibited card r h =
    control_clean r _ h (settled_within card (field 11 9) (bit 8) host_bits e r.control.host h.host) h.clock
clean_from Clock e inhibited card r h =
    clean_reset (reset_bits e) (with_clock r (clock_after card e r.control.clock))
    (control_clean r _ h h.host (settled_within card (bit 0) (bit 2) clock_bits e r.control.clock h.clock))
clean_from Status e inhibited card r h = interrupts_clean r _ h (kept_acknowledge e.bits r.interrupts h.interrupts)
clean_from Enabled e inhibited card r h = interrupts_clean r _ h (kept_enable e r.interrupts h.interrupts)
clean_from Signal e inhibited card r h = interrupts_clean r _ h (kept_signal e r.interrupts h.interrupts)
clean_from Force e inhibited card r h = interrupts_clean r _ h (kept_force e r.interrupts h.interrupts)
clean_from Low e inhibited card r h = adma_clean r _ h (stored_within low_bits e r.adma.low h.low)
clean_from High e inhibited card r h = adma_clean r _ h h.low

-- "Reserved or read-only bits and uncarried offsets ignore writes"
pub clean_take : (w : Word) (e : Edit) (f : Facts) (r : Registers) → Clean r → Clean (take_of w e f r)
unfolding take_of
clean_take (Takes w) e f r h = clean_from w e (in_use f.dat) f.card r h
clean_take (Tells w) e f r h = h

-- whatever the access names, and whatever it is answered
pub clean_write : (r : Registers) (f : Facts) (offset width value : ℕ) → Clean r → Clean (write_of r f offset width value).registers
clean_write r f offset width value h = go (target_of offset width value) (inhibits f.dat offset width)
  where
    go : (t : Option Target) (inhibited : Bool) → Clean (write_at t inhibited f r).registers
    go None inhibited = h
    go (Some t) true = h
    go (Some t) false = clean_take t.word t.edit f r h

-- "Out ... clears SD Bus Power, SD Clock Enable"
pub clean_unplug : (r : Registers) → Clean r → Clean (unplugged r)
clean_unplug r h =
    control_clean r _ h (less_within r.control.host (bit 8) host_bits h.host) (less_within r.control.clock (bit 2) clock_bits h.clock)

-- ---- what is read

-- the bits of each word that are assigned: 02Fh and 050h-053h have none that read
abbrev pub assigned : Taker → ℕ
assigned System = whole_bits
assigned Block = block_bits
assigned Argument = whole_bits
assigned Order = order_bits
assigned Host = host_bits
assigned Clock = clock_bits + bit 1
assigned Status = plain + bit 8 + bit 15
assigned Enabled = carried
assigned Signal = carried
assigned Force = 0
assigned Low = low_bits
assigned High = whole_bits

-- "bit 1 equals bit 0" adds bit 1
shown_clock_lem : (clock : ℕ) → Within clock clock_bits → Within (shown_clock clock) (assigned Clock)
unfolding without
shown_clock_lem clock h =
    or_within clock (2 * (clock % 2)) (assigned Clock) (wider_within clock clock_bits (assigned Clock) refl h)
    (go (clock % 2) (mod-lt clock (lit< tt)))
  where
    go : (d : ℕ) → d < 2 → Within (2 * d) (assigned Clock)
    go zero l = zero_within (assigned Clock)
    go (suc zero) l = none_within 2 (assigned Clock) refl
    go (suc (suc d)) l = absurd (omega arith)

-- bits 8 and 15 are added
shown_status_lem : (level : Bool) (i : Interrupts) → Kept i → Within (shown_status level i) (assigned Status)
unfolding shown_status without
shown_status_lem level i h =
    or_within (bit_or i.status (card_bit level i)) (error_bit i) (assigned Status)
    (or_within i.status (card_bit level i) (assigned Status) (wider_within i.status plain (assigned Status) refl h.plain)
    (by_test P level (λ t. wider_within (bit_and i.enabled (bit 8)) (bit 8) (assigned Status) refl (and_within i.enabled (bit 8)))
    (λ t. zero_within (assigned Status))))
    (by_test P (ltb (field 15 0) i.status) (λ t. none_within (bit 15) (assigned Status) refl) (λ t. zero_within (assigned Status)))
  where
    P : ℕ → Type 0
    P x = Within x (assigned Status)

-- a whole word has no unassigned bit
whole : (k : ℕ) → k < 32 → bit_of whole_bits k ≡ false → ⊥
whole k l n = false≢true (sym n ∙ bit_ones 32 k ∙ lt-ltb k 32 l)

-- "unassigned bits read 0": of every word that takes writes
pub unassigned_zero : (w : Taker) (level : Bool) (r : Registers) → Clean r → (k : ℕ) → k < 32 → bit_of (assigned w) k ≡ false
    → bit_of (taker_shown w level r) k ≡ false
unassigned_zero System level r h k l n = absurd (whole k l n)
unassigned_zero Block level r h k l n = within_none r.setup.block block_bits k h.block n
unassigned_zero Argument level r h k l n = absurd (whole k l n)
unassigned_zero Order level r h k l n = within_none r.setup.order order_bits k h.order n
unassigned_zero Host level r h k l n = within_none r.control.host host_bits k h.host n
unassigned_zero Clock level r h k l n = within_none (shown_clock r.control.clock) (assigned Clock) k (shown_clock_lem r.control.clock h.clock) n
unassigned_zero Status level r h k l n =
    within_none (shown_status level r.interrupts) (assigned Status) k (shown_status_lem level r.interrupts h.interrupts) n
unassigned_zero Enabled level r h k l n = within_none r.interrupts.enabled carried k h.interrupts.chosen n
unassigned_zero Signal level r h k l n = within_none r.interrupts.signal carried k h.interrupts.signed n
unassigned_zero Force level r h k l n = n
unassigned_zero Low level r h k l n = within_none r.adma.low low_bits k h.low n
unassigned_zero High level r h k l n = absurd (whole k l n)
