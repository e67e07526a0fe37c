pub mod Records
pub mod Crossing
