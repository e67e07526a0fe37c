pub mod Only
pub mod RoundTrip
