pub mod Layouts
pub mod Places
pub mod Tails
pub mod Reader
pub mod Payload
