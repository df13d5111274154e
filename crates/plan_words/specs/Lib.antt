-- The words that the plan of an append writes make such a file. Nothing to call.
pub mod Planned
pub mod Takes
pub mod Course
pub mod Objects
