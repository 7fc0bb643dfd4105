-- What the proofs of several functions use, and the theorems over the definitions.
pub mod Laws
pub mod Counting
pub mod Readback
pub mod Exactly
pub mod Sound
pub mod Suffices
pub mod Bench
