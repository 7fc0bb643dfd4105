-- The declared types that the proofs of this crate speak of, and their constructors, brought together once. Proves nothing, and assumes nothing.
use Prim.Native.Nat.{ℕ}
use mathlib.Core.Bool.{Bool}
pub use Rattle.terms.specs.declared.BlockCount.{BlockCount}
pub use Rattle.terms.specs.declared.ByteCount.{ByteCount}
pub use Rattle.terms.specs.Answers.{Answer}
pub use Rattle.std.specs.Prelude.{Ok, Err}
pub use Rattle.terms.specs.declared.Refusal.TheVariants.{NotYet, NoTransfer, OutOfTurn, WrongLength, MemoryTooLarge}
pub use Rattle.table.specs.declared.fetch.Hand.{Hand}
pub use Rattle.table.specs.declared.fetch.Fetched.{Fetched}
pub use Rattle.table.specs.declared.fetch.Fetched.TheVariants.{Fault, Step, Data}
pub use Rattle.engine.specs.declared.transfer.Way.{Way}
pub use Rattle.engine.specs.declared.transfer.Way.TheVariants.{Read, Write}
pub use Rattle.engine.specs.declared.transfer.Stage.{Stage}
pub use Rattle.engine.specs.declared.transfer.Stage.TheVariants.{Fetching, Moving, Stopped}
pub use Rattle.engine.specs.declared.transfer.Transfer.{Transfer}
pub use Rattle.engine.specs.declared.transfer.Dat.{Dat}
pub use Rattle.engine.specs.declared.transfer.Dat.TheVariants.{Free, Busy, Runs, Stuck, Halted}
pub use Rattle.engine.specs.declared.transfer.Next.{Next}
pub use Rattle.engine.specs.declared.transfer.Next.TheVariants.{Fetch, Move, Stop, Finish, Fail}
pub use Rattle.engine.specs.declared.transfer.Outcome.{Outcome}
pub use Rattle.engine.specs.declared.transfer.Outcome.TheVariants.{Goes, Completes, Fails}
pub use Rattle.engine.specs.Turn.{Turned}
pub use Rattle.engine.specs.Block.{Passed}

-- a line in hand, by its parts
abbrev pub in_hand : ByteCount → ℕ → Bool → Bool → Hand
in_hand rest at last int = record { rest = rest; at = at; last = last; int = int }
