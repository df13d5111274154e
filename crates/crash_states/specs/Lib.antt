-- What an accepted append must do, demands 2 and 3, and that it can be carried out once more. Nothing to call.
pub mod Demand
pub mod Redo
pub mod Layouts
