pub mod Rules
pub mod Reading
pub mod Calls
pub mod Lists
pub mod Progress
pub mod Promise
pub mod Across
