-- What an accepted batch must do, and a batch of one. Nothing to call.
pub mod Batches
pub mod BatchSyncs
pub mod BatchOfOne
