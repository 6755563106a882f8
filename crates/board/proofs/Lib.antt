mod Body
pub mod Refusals
mod ByAnswer
mod Sound
pub mod OneCall
pub mod Left
