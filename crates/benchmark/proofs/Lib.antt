-- benchmark
pub mod Parts
