pub mod Registered
pub mod Instructions
pub mod Results
