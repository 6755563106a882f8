pub mod Sums
mod Lengths
pub mod Laws
pub mod Kept
pub mod Applied
