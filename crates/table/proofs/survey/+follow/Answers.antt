-- At each return `by_fetched` cites the definition's clause for the variant that was fetched; what follows tries no more lines than are allowed, and
-- names no more bytes than are owed.
use Rattle.std.proofs.Common.{◌≡◌, ◌-◌, ◌≤◌, ℕ, List, ap, arith}
use mathlib.Core.Path.{◌∙◌, sym, refl}
use native.Mathlib.Nat.{zero-add}
use Rattle.terms.specs.Counts.{bytes, less, more}
use Rattle.terms.specs.declared.ByteCount.{ByteCount}
use Rattle.table.specs.Fetch.{fetch_of}
use Rattle.table.specs.Trace.{Trace, trace_of}
use Rattle.table.specs.Survey.{report_from, report_of, behind_of}
use Rattle.table.specs.declared.survey.Kind.TheVariants.{Limit}
use Rattle.table.specs.declared.survey.Report.{Report}
use Rattle.table.specs.declared.fetch.Hand.{Hand}
use Rattle.table.specs.declared.fetch.Fetched.{Fetched}
use Rattle.table.specs.declared.fetch.Fetched.TheVariants.{Data}
use Rattle.table.proofs.Laws.{fetch_good}
use Rattle.table.proofs.Counting.{count_end, told, follow_told, behind_told}
use Rattle.table.proofs.Suffices.{lines_within, bytes_within}
use Rattle.table.proofs.survey.+follow.Goals as goal

module _ (mem : List ℕ) (at : ℕ) (owed : ByteCount) (f : Fetched) (e : f ≡ fetch_of mem at owed) where
  -- the definition's clause for the variant that was fetched
  by_fetched : (n : ℕ) (v : Fetched) → (n ≡ 0 → ⊥) → f ≡ v
      → told 1 (bytes 0) owed (λ next left met. report_from 1 met (trace_of mem (n - 1) next left)) v ≡ report_of (trace_of mem n at owed)
  by_fetched n v h g = rw (follow_told mem n at owed (bytes 0) 0 h, ← e, g) refl

  -- a sound line names no more bytes than are owed
  within : {next : ℕ} {h : Hand} → f ≡ Data next h → h.rest.0 ≤ owed.0
  within g = (rw (← e, g) at (fetch_good mem at owed)).1

pub returns-then-allowed-eq0 : goal.returns-then-allowed-eq0
unfolding trace_of
returns-then-allowed-eq0 t c = let a = c.args in rw c.if-allowed-eq0.true (sym (count_end 0 (bytes 0) Limit a.at))

pub returns-in-Fault : goal.returns-in-Fault
returns-in-Fault t c = let a = c.args in by_fetched _ a.at a.owed _ c.fetch.ensures a.allowed _ c.if-allowed-eq0.false c.in-Fault.is

-- no byte and so many are so many
none_more : (b : ByteCount) → more (bytes 0) b ≡ b
none_more b = ap bytes (zero-add b.0)

-- what follows a line tries no more lines than are allowed, and names no more bytes than are owed
rests : (mem : List ℕ) (n next : ℕ) (left : ByteCount) (r : Report) → r ≡ report_of (trace_of mem n next left) → (r.lines ≤ n) × (r.bytes.0 ≤ left.0)
rests mem n next left r e = rw e (omega (arith, lines_within mem n next left), omega (arith, bytes_within mem n next left))

pub behind-requires : goal.behind-requires
behind-requires t c =
    let w = rests _ (c.args.allowed - 1) c.in-Step.next c.args.owed _ c.follow.ensures in
    (omega (arith, w.0, c.requires.1, c.if-allowed-eq0.false), omega (arith, w.1))

pub behind-requires-else-hand : goal.behind-requires-else-hand
behind-requires-else-hand t c =
    let w = rests _ (c.args.allowed - 1) c.in-Data.next _ _ c.follow-else-hand.ensures in
    let few = within _ _ _ _ c.fetch.ensures c.in-Data.is in
    let left = ap (λ (b : ByteCount). b.0) c.less-left.ensures in
    (omega (arith, w.0, c.requires.1, c.if-allowed-eq0.false), omega (arith, w.1, few, left))

pub returns-then-last : goal.returns-then-last
returns-then-last t c =
    let a = c.args in
    let told = by_fetched _ a.at a.owed _ c.fetch.ensures a.allowed _ c.if-allowed-eq0.false c.in-Step.is in
    c.ended.ensures ∙ (rw c.if-last.true at told)

pub returns-else-last : goal.returns-else-last
returns-else-last t c =
    let a = c.args in
    let told = by_fetched _ a.at a.owed _ c.fetch.ensures a.allowed _ c.if-allowed-eq0.false c.in-Step.is in
    c.behind.ensures ∙ ap (behind_of (bytes 0)) c.follow.ensures ∙ behind_told (bytes 0) (trace_of a.mem.now (a.allowed - 1) c.in-Step.next a.owed) ∙ (rw c.if-last.false at told)

pub returns-then-hand : goal.returns-then-hand
returns-then-hand t c =
    let a = c.args in
    let told = by_fetched _ a.at a.owed _ c.fetch.ensures a.allowed _ c.if-allowed-eq0.false c.in-Data.is in
    (rw c.less-left.ensures at c.ended-then-hand.ensures) ∙ (rw (c.if-hand.true, none_more c.in-Data.hand.rest) at told)

pub returns-else-hand : goal.returns-else-hand
returns-else-hand t c =
    let a = c.args in
    let h = c.in-Data.hand in
    let rest : Trace = trace_of a.mem.now (a.allowed - 1) c.in-Data.next (less a.owed h.rest) in
    let told = by_fetched _ a.at a.owed _ c.fetch.ensures a.allowed _ c.if-allowed-eq0.false c.in-Data.is in
    c.behind-else-hand.ensures
    ∙ ap (behind_of h.rest) (rw c.less-left.ensures at c.follow-else-hand.ensures)
    ∙ behind_told h.rest rest
    ∙ ap (λ (b : ByteCount). report_from 1 b rest) (sym (none_more h.rest))
    ∙ (rw c.if-hand.false at told)
