-- What the bits of 02Fh do to the block: which status bit each clears, all that it leaves, and which accesses reset at all. Assumes nothing.
use Prim.Native.Nat.{ℕ, ◌+◌, ◌*◌, ◌/◌, ◌^◌, ◌≤◌, ◌<◌}
use native.Mathlib.Omega.{arith}
use mathlib.Core.Path.{◌≡◌, refl, sym, ◌∙◌, ap}
use mathlib.Core.Logic.Iff
use mathlib.Core.Logic.{◌≢◌, ⊎_elim}
use mathlib.Core.List.{List, [], ◌∷◌}
use mathlib.Core.Bool.{Bool, true, false, not, ◌&&◌, ◌||◌, false≢true}
use lib.Bits.{or_comm}
use lib.Dec.{eqb}
use borrow.Author.Tests.{eqb-true, eq-eqb, ne_eqb}
use Rattle.std.specs.Prelude.{Some}
use Rattle.registers.specs.Bits.{bit_of, without}
use Rattle.registers.specs.Place.{words, find, word_at, place_of, placed_of, edit_of, touches}
use Rattle.registers.specs.Interrupt.{event_bit, event_set, with_status, acknowledged, shown_status}
use Rattle.registers.specs.Block.{power_on, with_clock, with_interrupts}
use Rattle.registers.specs.Reset.{reset_bits, no_resets, resets_of, reset_command, reset_data, reset_with}
use Rattle.registers.specs.Access.{taker_shown, take_from, take_of}
use Rattle.registers.specs.declared.place.Taker.TheVariants.{Clock}
use Rattle.registers.specs.declared.place.Word.{Word}
use Rattle.registers.specs.declared.place.Word.TheVariants.{Takes, Tells}
use Rattle.registers.specs.declared.place.Edit.{Edit}
use Rattle.registers.specs.declared.interrupt.Event.{Event}
use Rattle.registers.specs.declared.interrupt.Event.TheVariants.{CommandComplete, TransferComplete}
use Rattle.registers.specs.declared.interrupt.Interrupts.{Interrupts}
use Rattle.registers.specs.declared.reset.Resets.{Resets}
use Rattle.registers.specs.declared.word.Facts.{Facts}
use Rattle.registers.specs.declared.block.Registers.{Registers}
use Rattle.registers.proofs.Tests.{both, by_test}
use Rattle.registers.proofs.Parted.{acknowledge_join}
use Rattle.registers.proofs.Wide.{quiet}
use Rattle.registers.proofs.Standing.{acknowledge_clears, acknowledge_keeps}
use Rattle.registers.proofs.Events.{event_one}
use Rattle.registers.proofs.Exactly.{place_lies, misses_exactly, word_touched}

-- ---- bits 1 and 2

-- an event's bit is cleared, and no other
clears : (e : Event) (i : Interrupts) → bit_of (acknowledged (event_set e) i).status (event_bit e) ≡ false
clears e i = acknowledge_clears (event_set e) i (event_bit e) (event_one e (event_bit e) ∙ eq-eqb (event_bit e) (event_bit e) refl)

keeps : (e : Event) (i : Interrupts) (k : ℕ) → k ≢ event_bit e → bit_of (acknowledged (event_set e) i).status k ≡ bit_of i.status k
keeps e i k h = acknowledge_keeps (event_set e) i k (event_one e k ∙ ne_eqb k (event_bit e) h)

-- "Bit 1: ... clears Command Complete"
pub command_cleared : (r : Registers) → bit_of (reset_command r).interrupts.status (event_bit CommandComplete) ≡ false
command_cleared r = clears CommandComplete r.interrupts

-- "Bit 2: ... clears Transfer Complete."
pub data_cleared : (r : Registers) → bit_of (reset_data r).interrupts.status (event_bit TransferComplete) ≡ false
data_cleared r = clears TransferComplete r.interrupts

-- "Bits 1 and 2 leave error status", and every other status bit
pub command_keeps : (r : Registers) (k : ℕ) → k ≢ event_bit CommandComplete
    → bit_of (reset_command r).interrupts.status k ≡ bit_of r.interrupts.status k
command_keeps r k h = keeps CommandComplete r.interrupts k h

-- likewise
pub data_keeps : (r : Registers) (k : ℕ) → k ≢ event_bit TransferComplete
    → bit_of (reset_data r).interrupts.status k ≡ bit_of r.interrupts.status k
data_keeps r k h = keeps TransferComplete r.interrupts k h

-- "Bits 1 and 2 leave ... 054h": two blocks that differ in the status alone
pub record Beside (a b : Registers) : Type 0 where
  pub setup : a.setup ≡ b.setup
  pub reply : a.reply ≡ b.reply
  pub control : a.control ≡ b.control
  pub enabled : a.interrupts.enabled ≡ b.interrupts.enabled
  pub signal : a.interrupts.signal ≡ b.interrupts.signal
  pub adma : a.adma ≡ b.adma

beside : (bits : ℕ) (r : Registers) → Beside (with_interrupts r (acknowledged bits r.interrupts)) r
beside bits r = record { setup = refl; reply = refl; control = refl; enabled = refl; signal = refl; adma = refl }

-- bit 1 leaves them
pub command_beside : (r : Registers) → Beside (reset_command r) r
command_beside r = beside (event_set CommandComplete) r

-- bit 2 leaves them
pub data_beside : (r : Registers) → Beside (reset_data r) r
data_beside r = beside (event_set TransferComplete) r

-- bits 1 and 2 in either order
pub resets_commute : (r : Registers) → reset_data (reset_command r) ≡ reset_command (reset_data r)
resets_commute r =
    let s = r.interrupts.status in
    let a = event_set CommandComplete in
    let b = event_set TransferComplete in
    ap (λ (s : ℕ). with_interrupts r (with_status r.interrupts s))
    (sym (acknowledge_join a b s) ∙ ap (without s) (or_comm a b) ∙ acknowledge_join b a s)

-- ---- bit 0

-- bit 0 outdoes them
pub all_outdoes : (which : Resets) (r : Registers) → which.all ≡ true → reset_with which r ≡ power_on
unfolding reset_with
all_outdoes which r h = rw h

-- "Bit 0: all to power-on": whatever else its access wrote
pub all_reset : (e : Edit) (f : Facts) (r : Registers) → bit_of e.bits 24 ≡ true → take_of (Takes Clock) e f r ≡ power_on
unfolding take_of take_from
all_reset e f r h = all_outdoes (reset_bits e) _ h

-- ---- which accesses reset

-- the word is told from the others by what it shows of a block in which one bit of it stands
told : Word → Bool
told (Takes w) = eqb (taker_shown w false (with_clock power_on 8)) 8
told (Tells w) = false

-- such a word stands at 02Ch only
placed : List (ℕ × Word) → Bool
placed [] = true
placed (entry ∷ rest) = (not (told entry.1) || eqb entry.0 0x02C) && placed rest

find_told : (base : ℕ) (l : List (ℕ × Word)) → placed l ≡ true → told (find base l) ≡ true → base ≡ 0x02C
unfolding find placed told
find_told base [] p h = absurd (false≢true h)
find_told base (entry ∷ l) p h =
    let (first, rest) = (both (not (told entry.1) || eqb entry.0 0x02C) (placed l) Iff.rfl Iff.rfl).0 p in
    by_test (λ (w : Word). told w ≡ true → base ≡ 0x02C) (eqb base entry.0)
    (λ e g. eqb-true base entry.0 e ∙ eqb-true entry.0 0x02C (rw g at first)) (λ e g. find_told base l rest g) h

clock_word : (base : ℕ) → word_at base ≡ Takes Clock → base ≡ 0x02C
unfolding words word_at placed told shown_status
clock_word base h = find_told base words refl (ap told h)

-- what an access resets is what its edit says, where it goes to 02Ch-02Fh
pub resets_at : (offset width value lane n : ℕ) → place_of offset width ≡ Some (record { word = Takes Clock; lane = lane; width = n })
    → value < 2 ^ (8 * n)
    → resets_of offset width (edit_of lane n value) ≡ reset_bits (edit_of lane n value)
resets_at offset width value lane n h small =
    by_test (λ (x : Resets). x ≡ reset_bits (edit_of lane n value)) (touches 0x02F offset width) (λ e. refl) (λ e.
    let at = place_lies offset width (Takes Clock) lane n h in
    let base = clock_word (offset / 4 * 4) at.word in
    let start = at.start in
    let size = at.size in
    let low : lane + n ≤ 3 = ⊎_elim (λ b. absurd (omega arith)) (λ b. omega arith) ((misses_exactly 0x02F offset width).0 e) in
    let none : (k : ℕ) → 24 ≤ k → bit_of (placed_of lane value) k ≡ false = λ k. quiet lane n value k small low in
    rw (none 24 (omega arith), none 25 (omega arith), none 26 (omega arith)))

-- elsewhere nothing
pub resets_elsewhere : (offset width : ℕ) (w : Word) (lane n : ℕ) (e : Edit)
    → place_of offset width ≡ Some (record { word = w; lane = lane; width = n }) → w ≢ Takes Clock
    → resets_of offset width e ≡ no_resets
unfolding words find word_at
resets_elsewhere offset width w lane n e h other =
    by_test (λ (x : Resets). x ≡ no_resets) (touches 0x02F offset width)
    (λ g. absurd (other (word_touched offset width 0x02F w lane n h g))) (λ g. refl)
