pub mod Kinds
pub mod Plans
pub mod Version
