pub mod Sending
pub mod Packets
pub mod Sent
pub mod Applied
