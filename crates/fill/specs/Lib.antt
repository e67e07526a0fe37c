pub mod Fills
pub mod Rows
