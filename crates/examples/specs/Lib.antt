-- The worked examples of the rules, computed over the definitions, as one statement. Nothing to call.
pub mod Examples
pub mod Foreign
pub mod LongHeader
pub mod Compact
pub mod Streams
pub mod Syncs
pub mod Whys
pub mod Batches
pub mod Texts
pub mod Summaries
pub mod Salvages
