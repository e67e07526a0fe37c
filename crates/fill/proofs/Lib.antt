pub mod Filling
pub mod Looping
pub mod Lying
pub mod Signs
