pub mod Enough
pub mod Longest
