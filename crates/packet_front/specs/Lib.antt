pub mod Front
pub mod Header
