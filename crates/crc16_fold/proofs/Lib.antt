pub mod Parts
pub mod Powers
pub mod Words
