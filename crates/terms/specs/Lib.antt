pub mod Counts
pub mod Flag
pub mod Answers
pub mod Bench
