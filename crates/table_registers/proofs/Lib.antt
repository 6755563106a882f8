pub mod Rows
pub mod Permits
