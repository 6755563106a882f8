pub mod Answers
mod Rounds
