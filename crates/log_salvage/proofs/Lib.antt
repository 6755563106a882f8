pub mod Packing
pub mod Rounds
pub mod Answer
pub mod LeftOver
pub mod Promises
pub mod Applied
