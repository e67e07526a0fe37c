pub mod Packing
pub mod Signs
pub mod Pairs
pub mod Flags
pub mod Deltas
pub mod Writing
pub mod Laws
pub mod Forgetting
