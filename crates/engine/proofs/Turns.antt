-- A turn keeps the invariant: it fetches a line, or moves bytes of the line in hand. Assumes nothing.
use Prim.Native.Nat.{ℕ, zero, suc, pred, ◌+◌, ◌-◌, ◌*◌, ◌≤◌, ◌<◌}
use native.Mathlib.Omega.{arith}
use mathlib.Core.Path.{◌≡◌, refl, sym, ap, ◌∙◌, subst}
use mathlib.Core.Logic.{◌≢◌}
use mathlib.Core.List.{List, ◌∷◌}
use mathlib.Core.Bool.{Bool}
use lib.ListN.{length, drop, length-drop}
use lib.Seq.{paste, length-paste}
use Rattle.terms.specs.Counts.{bytes}
use Rattle.table.specs.Fetch.{fetch_of}
use Rattle.table.specs.Trace.{Area, Trace, add_ring, ring_of, onward, along, trace_of}
use Rattle.table.specs.declared.survey.Kind.TheVariants.{Limit}
use Rattle.table.proofs.Laws.{Good, fetch_good}
use Rattle.engine.specs.Turn.{seen_table, seen_int, seen, further, done_rest}
use Rattle.engine.proofs.Names.{Fetched, Fault, Step, Data, Way, Read, Write, Next, Fetch, Move, in_hand}
use Rattle.engine.proofs.Coming.{left_over, with_over, coming, seen_comes, further_comes, weight, seen_weight, further_weight}
use Rattle.engine.proofs.Invariant.{Goal, Cargo, Now, Count, Shape, Side, Inv, settled_shape}
use Rattle.engine.proofs.Moves.{moved_cargo, loaded, loaded_length, load_side, unloaded, unload_side}
use Rattle.engine.proofs.Alike.{paste_same}

-- a turn, with the cargo and 058h after it, and whether a line with Int is done
abbrev pub turned : Now → Cargo → ℕ → Bool → Now
turned s c table int =
    record { cargo = c; answered = s.answered; table = table; rings = ring_of int + s.rings; turns = suc s.turns; steps = suc s.steps }

-- "With no line in hand a turn fetches"
abbrev pub fetched : Now → Fetched → Now
fetched s f = turned s s.cargo (seen_table f) (seen_int f)

module _ (G : Goal) (positive : 0 < G.size) where
  -- ---- a turn that fetches

  -- where a fetch leaves a transfer
  seen_shape : (way : Way) (left owed held room : ℕ) → held ≤ G.size → Count way G.size left owed held → (f : Fetched) → Good room (bytes owed) f
      → Shape way G.size left owed held room (seen f owed left held)
  unfolding seen Shape
  seen_shape way left owed held room fits e (Fault state next) g = tt
  seen_shape way left owed held room fits e (Step next last int) g = settled_shape G.size positive room last way left owed held fits e
  seen_shape way left owed held room fits e (Data next d) g = g

  -- one line less to follow, and no more turns
  line_side : (way : Way) (c : Cargo) (at : ℕ) (lines : List ℕ) (named : List Area) (before after : ℕ) → after ≤ before
      → Side way G c (at ∷ lines) named before → Side way G c lines named after
  line_side Write c at lines named before after h i =
      record { paid = omega (arith, i.paid); spare = λ r. omega (arith, i.spare r); same = i.same; carried = i.carried }
  line_side Read c at lines named before after h i =
      record {
        paid = omega (arith, i.paid);
        spare = λ r. omega (arith, i.spare r);
        clear = i.clear.1;
        others = i.others;
        carried = i.carried;
      }

  -- a fetch, with one line less to follow
  pub fetch_keeps : (way : Way) (n : ℕ) (s : Now) → G.trace.kind ≢ Limit → Inv way G n s Fetch
      → let f = fetch_of s.cargo.memory s.table (bytes s.cargo.owed) in
      Inv way G (pred n) (fetched s f) (seen f s.cargo.owed s.cargo.left (length s.cargo.held))
  unfolding coming trace_of weight
  fetch_keeps way zero s reaches i = absurd (reaches (sym i.kind))
  fetch_keeps way (suc n) s reaches i =
      let c : Cargo = s.cargo in
      let f : Fetched = fetch_of c.memory s.table (bytes c.owed) in
      let st : Next = seen f c.owed c.left (length c.held) in
      let e : add_ring (seen_int f) (coming n c.memory (seen_table f) c.owed st) ≡ along (trace_of c.memory n) (bytes c.owed) f =
      seen_comes n c.memory c.left (length c.held) c.owed f in
      let after : ℕ = suc s.turns + weight n st in
      record {
        within = i.within;
        long = i.long;
        shared = i.shared;
        tallied = omega (arith, i.tallied);
        kind = ap (λ (t : Trace). t.kind) e ∙ i.kind;
        rung = omega (arith, i.rung, ap (λ (t : Trace). t.rings) e);
        count = i.count;
        shape = seen_shape way c.left c.owed (length c.held) (length c.memory) i.within i.count f (fetch_good c.memory s.table (bytes c.owed));
        side = subst (λ (t : Trace). Side way G c t.lines t.named after) (sym e)
            (line_side way c s.table (along (trace_of c.memory n) (bytes c.owed) f).lines (along (trace_of c.memory n) (bytes c.owed) f).named
            (s.turns + 2 * suc n) after (omega (arith, seen_weight n f c.owed c.left (length c.held))) i.side);
      }

  -- ---- a turn that moves

  -- where a move leaves it
  further_shape : (way : Way) (left owed held room rest at : ℕ) (last int : Bool) → held ≤ G.size → Count way G.size left owed held
      → rest ≤ owed → at + rest ≤ room → Shape way G.size left owed held room (further rest at last int owed left held)
  unfolding further Shape
  further_shape way left owed held room zero at last int fits e owes lies = settled_shape G.size positive room last way left owed held fits e
  further_shape way left owed held room (suc rest) at last int fits e owes lies = (omega arith, owes, lies)

  module _ (n : ℕ) (s : Now) (at k rest : ℕ) (last int : Bool) where
    -- the line in hand, of which so many bytes are moved and so many are left
    abbrev hand : Next
    hand = Move (in_hand (bytes (k + rest)) at last int)

    -- the rest of the table
    abbrev beyond : List ℕ → Trace
    beyond mem = onward (trace_of mem n) last s.table (bytes (s.cargo.owed - (k + rest)))

    -- where the move leaves the transfer, by what is then held
    abbrev onto : List ℕ → Next
    onto held = further rest (at + k) last int (s.cargo.owed - k) s.cargo.left (length held)

    -- the turns spent once the line in hand and the rest of the table are followed
    abbrev before : ℕ
    before = s.turns + suc (2 * n)

    -- whichever way it goes
    moved_keeps : (way : Way) (held mem : List ℕ) → length held ≤ G.size → length mem ≡ length s.cargo.memory
        → Count way G.size s.cargo.left (s.cargo.owed - k) (length held) → beyond mem ≡ beyond s.cargo.memory
        → ((after : ℕ) → after ≤ suc before → (rest ≡ 0 → after ≤ before)
        → Side way G (moved_cargo s.cargo k held mem) (beyond s.cargo.memory).lines (left_over (at + k) rest (beyond s.cargo.memory).named) after)
        → Inv way G n s hand → Inv way G n (turned s (moved_cargo s.cargo k held mem) s.table (done_rest rest int)) (onto held)
    unfolding coming weight Shape
    moved_keeps way held mem fits long count same side i =
        let c : Cargo = s.cargo in
        let w = further_weight n rest (at + k) last int (c.owed - k) c.left (length held) in
        let d : c.owed - k - rest ≡ c.owed - (k + rest) = omega arith in
        let e : add_ring (done_rest rest int) (coming n mem s.table (c.owed - k) (onto held)) ≡ with_over (at + k) rest (add_ring int (beyond c.memory)) =
        further_comes n mem c.left (length held) rest (at + k) last int s.table (c.owed - k)
        ∙ ap (λ (o : ℕ). with_over (at + k) rest (add_ring int (onward (trace_of mem n) last s.table (bytes o)))) d
        ∙ ap (λ (t : Trace). with_over (at + k) rest (add_ring int t)) same in
        record {
          within = fits;
          long = long ∙ i.long;
          shared = i.shared;
          tallied = omega (arith, i.tallied);
          kind = ap (λ (t : Trace). t.kind) e ∙ i.kind;
          rung = omega (arith, i.rung, ap (λ (t : Trace). t.rings) e);
          count = count;
          shape = further_shape way c.left (c.owed - k) (length held) (length mem) rest (at + k) last int fits count
              (omega (arith, i.shape.1)) (omega (arith, i.shape.2));
          side = subst (λ (t : Trace). Side way G (moved_cargo c k held mem) t.lines t.named (suc s.turns + weight n (onto held))) (sym e)
              (side (suc s.turns + weight n (onto held)) (omega (arith, w.0)) (λ e. omega (arith, w.1 e)));
        }

    -- a write, into a buffer that has room
    pub load_keeps : length s.cargo.held < G.size → length s.cargo.held + k ≤ G.size → (length s.cargo.held + k < G.size → rest ≡ 0)
        → Inv Write G n s hand
        → Inv Write G n (turned s (loaded s.cargo at k) s.table (done_rest rest int)) (onto (loaded s.cargo at k).held)
    unfolding coming weight Shape
    load_keeps room fits full i =
        let c : Cargo = s.cargo in
        let lies : at + (k + rest) ≤ length c.memory = i.shape.2 in
        let l = loaded_length c at k (omega arith) in
        moved_keeps Write (loaded c at k).held c.memory (omega arith) refl (omega (arith, i.count, i.shape.1)) refl
        (λ after most done. load_side G c at k rest (beyond c.memory).named before after lies most done room full i.side) i

    -- a read, out of a buffer that holds bytes
    pub unload_keeps : 0 < length s.cargo.held → k ≤ length s.cargo.held → (k < length s.cargo.held → rest ≡ 0)
        → Inv Read G n s hand
        → Inv Read G n (turned s (unloaded s.cargo at k) s.table (done_rest rest int)) (onto (unloaded s.cargo at k).held)
    unfolding coming weight Shape
    unload_keeps holds enough empty i =
        let c : Cargo = s.cargo in
        let lies : at + (k + rest) ≤ length c.memory = i.shape.2 in
        let l = length-drop k c.held in
        moved_keeps Read (drop k c.held) (paste c.memory at c.held k) (omega (arith, i.within))
        (length-paste c.memory at c.held k (omega arith) enough) (omega (arith, i.count, i.shape.1))
        (paste_same at k rest c.memory c.held (omega arith) enough (beyond c.memory).named n last s.table (bytes (c.owed - (k + rest))) i.side.clear)
        (λ after most done.
        unload_side G c at k rest (beyond c.memory).named before after lies most done (beyond c.memory).lines holds enough empty i.side)
        i
