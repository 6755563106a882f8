pub mod Header
pub mod Sums
pub mod Laws
pub mod Peeks
pub mod Begins
pub mod Burst
pub mod Applied
