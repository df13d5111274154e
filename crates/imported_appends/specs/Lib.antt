-- A text that is read and appended.
pub mod Appended
