pub mod Obus
pub mod Parts
pub mod Reached
pub mod Room
