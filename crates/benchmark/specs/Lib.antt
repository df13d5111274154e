-- benchmark
pub mod Answer
