pub mod Strengths
pub mod RoundTrip
