pub mod Memory
pub mod Line
pub mod Written
pub mod Fetch
pub mod Trace
pub mod Survey
pub mod Sound
pub mod Bench
