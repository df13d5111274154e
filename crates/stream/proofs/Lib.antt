-- Laws: what the stream of two files is. Nothing to call.
pub mod Meeting
pub mod Rising
pub mod Stepping
pub mod TwoFiles
