-- Proofs of how much room the arrays of our files have.
pub mod ChainGrowth
pub mod RoomKept
pub mod OursRoom
pub mod Sizing
