pub mod Planned
pub mod Applied
