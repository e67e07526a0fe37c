pub mod Deltas
pub mod Laws
pub mod Counts
