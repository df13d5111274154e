-- Proofs: what a bank reads of a salvage.
pub mod Accounts
pub mod OpenedWalk
pub mod OpenedKept
pub mod KeptRequests
pub mod KeptShown
pub mod NewFileFirst
pub mod RunSteps
pub mod KeptRuns
pub mod Refills
pub mod AgreedWhole
