pub mod Soundness
pub mod Question
pub mod Applied
