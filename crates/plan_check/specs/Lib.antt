pub mod Checking
pub mod Tested
