-- The theorems over the definitions: every entry, in every world.
pub mod Names
pub mod Causes
pub mod Effects
pub mod Given
pub mod Plain
pub mod Turned
pub mod Halting
pub mod Numbers
pub mod Refused
pub mod Kept
pub mod Exactly
pub mod Bench
pub mod Masks
pub mod Clean
pub mod Paired
pub mod Example
pub mod Lent
