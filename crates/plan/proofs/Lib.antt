pub mod Wanted
pub mod Packets
pub mod Lists
pub mod Samples
