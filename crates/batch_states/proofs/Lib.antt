-- Proofs of what an accepted batch must do.
pub mod EntryStores
pub mod BatchAccepted
pub mod BatchCuts
pub mod BatchDemands
pub mod BatchOne
pub mod PackedEntry
pub mod BatchInstance
pub mod BatchWalks
pub mod EntryWalks
pub mod BatchRedo
pub mod BatchAnyOrder
pub mod PointParts
pub mod CommitRead
pub mod BatchSyncPoints
pub mod NextEntry
