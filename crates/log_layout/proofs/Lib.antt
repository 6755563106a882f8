pub mod Laid
pub mod Sound
pub mod Rounds
pub mod Samples
