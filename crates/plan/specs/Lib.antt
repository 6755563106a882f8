pub mod Goals
pub mod Plan
pub mod Planner
pub mod Samples
