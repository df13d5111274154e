-- A new file, and a file with an append: what is claimed of them, and what they hold that 14 looks at.
pub mod Next
pub mod Settled
pub mod Blank
