pub mod Rounds
pub mod Plain
pub mod Left
