pub mod Next
pub mod Plain
