pub mod Blend
pub mod Walked
