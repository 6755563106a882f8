pub mod Resets
pub mod Values
