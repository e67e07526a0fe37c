pub mod Fields
pub mod Optional
pub mod Timing
pub mod Points
pub mod Frame
pub mod Tools
pub mod Color
pub mod Sequence
