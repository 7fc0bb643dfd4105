-- What the proofs of several functions use, and the theorems over the definitions.
pub mod Product
pub mod Answers
