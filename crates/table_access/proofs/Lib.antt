pub mod Put
pub mod Theorems
