pub mod Contexts
pub mod Crossing
