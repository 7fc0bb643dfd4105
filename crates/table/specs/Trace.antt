-- "Survey follows a table": the lines that it tries, the data that they name, how it ends and where. Assumes nothing: these are definitions.
use Rattle.std.specs.Prelude.{ℕ, zero, suc, ◌+◌, List, [], ◌∷◌, ◌++◌, Bool, true, false, take, drop}
use Rattle.std.proofs.Math.Seq.{paste}
use Rattle.terms.specs.Counts.{bytes, more, less}
use Rattle.terms.specs.declared.ByteCount.{ByteCount}
use Rattle.table.specs.Memory.{index_of}
use Rattle.table.specs.Fetch.{fetch_of}
use Rattle.table.specs.declared.fetch.Failure.TheVariants as failure
use Rattle.table.specs.declared.survey.Kind.{Kind}
use Rattle.table.specs.declared.survey.Kind.TheVariants.{Well, Error, Limit}
use Rattle.table.specs.declared.fetch.Fetched.{Fetched}
use Rattle.table.specs.declared.fetch.Fetched.TheVariants.{Fault, Step, Data}

-- data that a line names: so many bytes from an address on
pub record Area : Type 0 where
  pub at : ℕ
  pub len : ℕ

pub record Trace : Type 0 where
  pub kind : Kind
  pub lines : List ℕ  -- the addresses of the lines tried
  pub named : List Area  -- the data of the sound Tran lines
  pub rings : ℕ  -- how many lines done have Int
  pub after : ℕ  -- the address after

abbrev pub ends : Kind → ℕ → Trace
ends k at = record { kind = k; lines = []; named = []; rings = 0; after = at }

abbrev pub add_line : ℕ → Trace → Trace
add_line at t = record { kind = t.kind; lines = at ∷ t.lines; named = t.named; rings = t.rings; after = t.after }

abbrev pub add_area : ℕ → ℕ → Trace → Trace
add_area at n t =
    record { kind = t.kind; lines = t.lines; named = record { at = at; len = n } ∷ t.named; rings = t.rings; after = t.after }

-- "A line done with Int sets DMA Interrupt."
unfoldable pub ring_of : Bool → ℕ
ring_of true = 1
ring_of false = 0

abbrev pub add_ring : Bool → Trace → Trace
add_ring int t = record { kind = t.kind; lines = t.lines; named = t.named; rings = ring_of int + t.rings; after = t.after }

-- "A line done with End stops the engine; bytes still owed then are an error in state 00 with Mismatch."
abbrev pub finish_kind : ℕ → Kind
finish_kind zero = Well
finish_kind (suc n) = Error failure.Owing

-- after a line, with End or without: the table ends, or `rest` follows it from the next address
unfoldable pub onward : (ℕ → ByteCount → Trace) → Bool → ℕ → ByteCount → Trace
onward rest true next owed = ends (finish_kind owed.0) next
onward rest false next owed = rest next owed

-- after the fetch of a line; what a sound Tran line names is owed no longer
unfoldable pub along : (ℕ → ByteCount → Trace) → ByteCount → Fetched → Trace
along rest owed (Fault f next) = ends (Error f) next
along rest owed (Step next last int) = add_ring int (onward rest last next owed)
along rest owed (Data next h) = add_area h.at h.rest.0 (add_ring h.int (onward rest h.last next (less owed h.rest)))

-- "each further line is followed with one line less allowed"
unfoldable pub trace_of : List ℕ → ℕ → ℕ → ByteCount → Trace
trace_of mem zero at owed = ends Limit at
trace_of mem (suc n) at owed = add_line at (along (λ next left. trace_of mem n next left) owed (fetch_of mem at owed))

-- how many bytes areas name
unfoldable pub total : List Area → ByteCount
total [] = bytes 0
total (a ∷ r) = more (bytes a.len) (total r)

-- the bytes that areas name, in order
unfoldable pub named_bytes : List ℕ → List Area → List ℕ
named_bytes mem [] = []
named_bytes mem (a ∷ r) = take a.len (drop (index_of a.at) mem) ++ named_bytes mem r

-- a memory whose areas are filled, in order, from a list of bytes
unfoldable pub fill : List ℕ → List Area → List ℕ → List ℕ
fill mem [] b = mem
fill mem (a ∷ r) b = fill (paste mem (index_of a.at) b a.len) r (drop a.len b)
