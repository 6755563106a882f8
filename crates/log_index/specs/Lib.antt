pub mod Events
pub mod Last
pub mod Marks
