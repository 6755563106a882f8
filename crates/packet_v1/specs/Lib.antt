pub mod Packet
pub mod Verdict
pub mod Kept
pub mod Applied
