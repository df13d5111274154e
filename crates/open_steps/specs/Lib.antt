-- What the functions that open an image know of each other: the object map, its marks, and tests part by part. Nothing to call.
pub mod Map
pub mod Known
pub mod Filter
pub mod Chained
pub mod Kept
pub mod Listed
pub mod Counts
pub mod Lowest
