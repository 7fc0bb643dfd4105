-- The declared types that the proofs of this crate speak of, and their constructors, brought together once. Proves nothing, and assumes nothing.
pub use Rattle.std.specs.Prelude.{Option, Some, None, Ok, Err}
pub use Rattle.terms.specs.declared.Refusal.TheVariants.{NoPlace, DatInhibited, CommandInhibited, DatInUse, Unpowered, NotCarried, LimitTooHigh, LineRefused}
pub use Rattle.table.specs.declared.line.Act.{Act}
pub use Rattle.table.specs.declared.line.Act.TheVariants.{Tran, Link, Other}
pub use Rattle.registers.specs.declared.block.Registers.{Registers}
pub use Rattle.registers.specs.declared.block.Reply.{Reply}
pub use Rattle.registers.specs.declared.interrupt.Event.{Event}
pub use Rattle.registers.specs.declared.interrupt.Event.TheVariants.{CommandComplete, CardInsertion, CardRemoval, TransferComplete, DmaInterrupt, AdmaError}
pub use Rattle.registers.specs.declared.place.Edit.{Edit}
pub use Rattle.registers.specs.Place.{Place}
pub use Rattle.registers.specs.declared.place.Taker.TheVariants.{Order}
pub use Rattle.registers.specs.declared.place.Target.{Target}
pub use Rattle.registers.specs.declared.place.Word.{Word}
pub use Rattle.registers.specs.declared.place.Word.TheVariants.{Takes}
pub use Rattle.registers.specs.declared.reset.Resets.{Resets}
pub use Rattle.engine.specs.declared.transfer.Way.{Way}
pub use Rattle.engine.specs.declared.transfer.Way.TheVariants.{Read, Write}
pub use Rattle.engine.specs.declared.transfer.Stage.{Stage}
pub use Rattle.engine.specs.declared.transfer.Stage.TheVariants.{Fetching, Moving, Stopped}
pub use Rattle.engine.specs.declared.transfer.Transfer.{Transfer}
pub use Rattle.engine.specs.declared.transfer.Dat.{Dat}
pub use Rattle.engine.specs.declared.transfer.Next.{Next}
pub use Rattle.engine.specs.declared.transfer.Next.TheVariants.{Fetch, Move, Stop, Finish, Fail}
pub use Rattle.engine.specs.declared.transfer.Outcome.{Outcome}
pub use Rattle.engine.specs.declared.transfer.Outcome.TheVariants.{Goes, Completes, Fails}
pub use Rattle.engine.specs.Turn.{Turned}
pub use Rattle.engine.specs.Block.{Passed}
pub use Rattle.engine.proofs.Names.{BlockCount, ByteCount, Answer, NotYet, NoTransfer, OutOfTurn, WrongLength, MemoryTooLarge, Fetched, Fault}
pub use Rattle.controller.specs.declared.command.Request.{Request}
pub use Rattle.controller.specs.declared.slot.Command.{Command}
pub use Rattle.controller.specs.declared.slot.Kind.{Kind}
pub use Rattle.controller.specs.declared.slot.Slot.{Slot}
pub use Rattle.controller.specs.Slot.{Stepped}
pub use Rattle.controller.specs.declared.slot.Waiting.{Waiting}
