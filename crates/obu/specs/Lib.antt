pub mod Header
pub mod Framing
pub mod Obu
pub mod Writer
pub mod Delimiter
pub mod Demand3
