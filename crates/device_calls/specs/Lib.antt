pub mod Calls
pub mod Stays
pub mod GoalWithinLimits
