pub mod Hearing
pub mod PlanCarriedOut
pub mod Applied
