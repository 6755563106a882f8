pub mod Writing
pub mod Encoding
pub mod RoundTrip
pub mod Applied
