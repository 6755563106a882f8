pub mod Deliveries
pub mod Rounds
pub mod Answers
pub mod Longest
pub mod Spared
pub mod Lean
