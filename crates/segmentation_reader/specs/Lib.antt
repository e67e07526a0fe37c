pub mod Layout
pub mod Clipped
