pub mod Scans
pub mod Windows
mod Seeking
mod Peeking
pub mod Behind
