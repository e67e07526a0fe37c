pub mod Hexes
pub mod RoundTrip
pub mod Signs
pub mod Texts
pub mod Uppers
