pub mod Single
pub mod Refusals
