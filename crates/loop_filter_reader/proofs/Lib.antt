pub mod Deltas
pub mod RoundTrip
