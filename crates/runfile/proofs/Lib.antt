-- What the proofs of several functions use.
pub mod Goods
pub mod Onward
pub mod Picks
pub mod Puts
pub mod Within
pub mod Made
