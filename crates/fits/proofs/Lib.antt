pub mod Counts
pub mod Steps
pub mod Slots
pub mod Logs
pub mod Applied
