pub mod Stuffing
pub mod Answers
