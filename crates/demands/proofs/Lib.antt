-- The three demands, proved over the definitions of the controller.
pub mod Exact
pub mod Begun
pub mod Surveyed
pub mod Acknowledges
pub mod Sides
pub mod Leads
pub mod Follows
pub mod Mirrors
pub mod Whole
pub mod Held
pub mod Completions
pub mod Told
pub mod Examples
