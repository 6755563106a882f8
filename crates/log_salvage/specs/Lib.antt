pub mod Report
pub mod Salvage
pub mod Applied
