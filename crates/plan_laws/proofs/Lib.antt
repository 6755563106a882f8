mod Accepted
mod Fewest
pub mod Planned
pub mod Applied
