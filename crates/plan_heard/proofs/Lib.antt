mod Written
mod Step
pub mod CarriedOut
pub mod OnBoard
pub mod Applied
