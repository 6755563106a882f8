pub mod Status
pub mod Sending
pub mod Sent
pub mod Applied
