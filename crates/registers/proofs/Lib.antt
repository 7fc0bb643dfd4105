-- What the proofs of several functions use, and the theorems over the definitions.
pub mod Sets
pub mod Tests
pub mod Lanes
pub mod Stored
pub mod Parted
pub mod Wide
pub mod Access
pub mod Command
pub mod Standing
pub mod Events
pub mod Derived
pub mod Reserved
pub mod Rules
pub mod Resets
pub mod Exactly
pub mod Bench
