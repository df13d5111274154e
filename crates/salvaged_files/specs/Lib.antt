-- What a bank reads of a salvage.
pub mod Salvaged
