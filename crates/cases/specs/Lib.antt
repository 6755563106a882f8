pub mod Exchanges
pub mod Cases
