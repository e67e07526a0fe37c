pub mod Laws
pub mod Unused
pub mod Counts
pub mod Answering
pub mod Demand
