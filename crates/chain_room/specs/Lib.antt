-- How much room the arrays of our files have.
pub mod Ours
pub mod Room
pub mod Sizing
