mod Lists
pub mod Writing
pub mod RoundTrip
pub mod Applied
