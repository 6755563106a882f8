pub mod Bytes
pub mod Asked
pub mod Tests
pub mod Laws
pub mod Settled
pub mod Peeks
pub mod Starts
pub mod Answers
