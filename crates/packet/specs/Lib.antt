pub mod Packet
pub mod Verdict
pub mod Burst
pub mod Applied
