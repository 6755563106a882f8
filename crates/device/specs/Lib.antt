pub mod Device
pub mod Answers
pub mod Split
pub mod Results
pub mod Demand1
pub mod Written
pub mod ActionLimits
pub mod Promises
