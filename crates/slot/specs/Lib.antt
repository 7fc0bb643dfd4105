pub mod Record
pub mod Step
pub mod Lines
pub mod Same
