pub mod Restoring
pub mod RoundTrip
