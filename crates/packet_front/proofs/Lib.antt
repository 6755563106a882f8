pub mod Lists
pub mod Header
pub mod Agreement
pub mod Tests
pub mod Starts
