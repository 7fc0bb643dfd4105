pub mod Transfer
pub mod Buffer
pub mod Turn
pub mod Lent
pub mod Block
pub mod Run
pub mod Demand
