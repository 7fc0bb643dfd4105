pub mod Run
pub mod Exact
pub mod Issued
pub mod Granted
pub mod Whole
pub mod Line
