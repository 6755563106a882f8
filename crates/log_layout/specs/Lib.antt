pub mod Log
pub mod Layout
pub mod Samples
