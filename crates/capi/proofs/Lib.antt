mod Carried
pub mod Done
