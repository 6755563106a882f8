pub mod Rounds
pub mod Promises
pub mod Applied
pub mod Overwritten
