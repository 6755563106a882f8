pub mod Shape
pub mod Answers
pub mod Starts
