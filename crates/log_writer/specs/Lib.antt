pub mod Writing
pub mod Applied
