pub mod Values
pub mod Features
pub mod Enabling
pub mod RoundTrip
