-- The laws of the record: it spells a slot, and its steps are the controller's.
pub mod Settled
pub mod Spelled
