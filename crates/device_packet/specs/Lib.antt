pub mod Exchange
pub mod AsDevice
pub mod OnlyPackets
pub mod Promises
