pub mod Ends
pub mod Starting
