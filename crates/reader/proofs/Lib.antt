pub mod Reading
pub mod Fields
pub mod Counting
pub mod Values
pub mod Windows
