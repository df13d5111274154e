-- Laws: a summary and an append.
pub mod FieldsKept
pub mod CountsKept
pub mod JournalBefore
pub mod SameAnswer
pub mod BroughtForward
