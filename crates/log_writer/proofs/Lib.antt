pub mod Rounds
pub mod Parts
pub mod Applied
