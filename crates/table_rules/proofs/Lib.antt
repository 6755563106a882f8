pub mod Stored
pub mod Walks
pub mod WriteStages
pub mod Size
pub mod Limits
pub mod LimitTests
pub mod Applied
