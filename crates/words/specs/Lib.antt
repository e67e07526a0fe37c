pub mod Listed
pub mod Names
pub mod Puts
pub mod Sentence
pub mod Text
