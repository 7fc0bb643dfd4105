-- The fetch of one line (01 "Lines and turns", Fetch). Assumes nothing: these are definitions.
use Rattle.std.specs.Prelude.{ℕ, ◌+◌, List, cond, length, ltb}
use Rattle.terms.specs.Counts.{bytes}
use Rattle.terms.specs.declared.ByteCount.{ByteCount}
use Rattle.table.specs.Memory.{in_memory}
use Rattle.table.specs.Line.{line_size, line_bytes, length_of, address_of, flags_of, act_of}
use Rattle.table.specs.declared.line.Act.{Act}
use Rattle.table.specs.declared.line.Act.TheVariants.{Tran, Link, Other}
use Rattle.table.specs.declared.fetch.Failure.TheVariants as failure
use Rattle.table.specs.declared.fetch.Failure.{Failure}
use Rattle.table.specs.declared.fetch.Hand.{Hand}
use Rattle.table.specs.declared.fetch.Fetched.{Fetched}
use Rattle.table.specs.declared.fetch.Fetched.TheVariants.{Fault, Step, Data}

-- "An error sets 054h (state, Mismatch 4)": the states, and Mismatch
abbrev pub stop_state : ℕ
stop_state = 0

abbrev pub fetch_state : ℕ
fetch_state = 1

abbrev pub move_state : ℕ
move_state = 3

abbrev pub mismatch : ℕ
mismatch = 4

-- the errors that there are, as 054h tells them
abbrev pub byte_of : Failure → ℕ
byte_of failure.Unsound = fetch_state
byte_of failure.Beyond = move_state
byte_of failure.Owing = stop_state + mismatch
byte_of failure.TooLong = move_state + mismatch

-- "Else 058h grows by 8": where the next line lies
abbrev pub next_line : ℕ → ℕ
next_line at = at + line_size

-- a sound line that names no bytes: "Other lines are done in the fetch."
abbrev pub step_on_of : List ℕ → ℕ → Fetched
step_on_of l next = Step next (flags_of l).end (flags_of l).int

-- a Tran line in hand, with all its bytes still to move
abbrev pub hand_of : List ℕ → Hand
hand_of l = record { rest = bytes (length_of l); at = address_of l; last = (flags_of l).end; int = (flags_of l).int }

-- a sound Tran line
abbrev pub data_of : List ℕ → ℕ → Fetched
data_of l next = Data next (hand_of l)

-- "Tran longer than the bytes still owed: state 11, Length Mismatch. Tran reaching past memory: state 11. Both: with Mismatch."
abbrev pub tran_of : List ℕ → ℕ → ℕ → ByteCount → Fetched
tran_of l next size owed =
    cond (ltb owed.0 (length_of l)) (Fault failure.TooLong next)
    (cond (in_memory size (address_of l) (length_of l)) (data_of l next) (Fault failure.Beyond next))

-- "Else 058h grows by 8, or takes the address for Link."
abbrev pub acted_of : Act → List ℕ → ℕ → ℕ → ByteCount → Fetched
acted_of Tran l at size owed = tran_of l (next_line at) size owed
acted_of Link l at size owed = step_on_of l (address_of l)
acted_of Other l at size owed = step_on_of l (next_line at)

-- "a line beyond memory or with Valid 0 is an error in state 01, and 058h stays": beyond memory it reads as zeros, so its Valid is 0
abbrev pub line_fetch : List ℕ → ℕ → ℕ → ByteCount → Fetched
line_fetch l at size owed = cond (flags_of l).valid (acted_of (act_of (flags_of l)) l at size owed) (Fault failure.Unsound at)

-- the line at an address, with so many bytes owed
unfoldable pub fetch_of : List ℕ → ℕ → ByteCount → Fetched
fetch_of mem at owed = line_fetch (line_bytes mem at) at (length mem) owed
