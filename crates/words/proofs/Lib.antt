pub mod Digits
pub mod Found
pub mod Longest
pub mod Puts
pub mod Sentences
