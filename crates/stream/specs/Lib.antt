-- What the stream of two files is.
pub mod Stream
