pub mod Mark
pub mod Laws
pub mod Answers
mod Rounds
pub mod Plain
