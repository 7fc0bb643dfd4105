pub mod File
pub mod Text
pub mod Run
pub mod Ride
