pub mod Results
pub mod Delivered
