pub mod Steps
pub mod Marks
pub mod Bodies
pub mod Rests
