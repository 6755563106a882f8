pub mod Every
pub mod Theorems
pub mod Slots
