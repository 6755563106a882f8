pub mod Hearing
pub mod Theorems
pub mod Split
pub mod AsDevice
pub mod Promises
