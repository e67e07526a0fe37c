pub mod Sizes
pub mod Arrays
