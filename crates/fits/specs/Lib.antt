pub mod Fits
pub mod Applied
