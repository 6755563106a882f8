pub mod Index
pub mod Marks
pub mod Rounds
mod Starts
