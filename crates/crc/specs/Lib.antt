pub mod Crc
pub mod Laws
pub mod Flips
pub mod Product
pub mod Applied
