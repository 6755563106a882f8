pub mod Rules
pub mod LimitTests
pub mod Outcomes
pub mod Limits
pub mod Stages
pub mod Applied
