pub mod Narrowing
pub mod Alike
pub mod Near
pub mod Filling
pub mod Writing
