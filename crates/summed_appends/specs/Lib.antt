-- A summary and an append.
pub mod BroughtForward
