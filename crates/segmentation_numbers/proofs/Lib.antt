pub mod Given
pub mod Crossing
