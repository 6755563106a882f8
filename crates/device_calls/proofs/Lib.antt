pub mod Kept
pub mod Stays
pub mod GoalWithinLimits
