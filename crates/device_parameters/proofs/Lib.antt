mod Apart
pub mod Searching
pub mod Bulk
