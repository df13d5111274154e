-- Laws: a text that is read and appended.
pub mod NewExport
pub mod NewPayloads
pub mod ReadEntry
pub mod ReturnsAppended
pub mod TextBytes
