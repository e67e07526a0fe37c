pub mod Hex
pub mod Text
pub mod Signed
