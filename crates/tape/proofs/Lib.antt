pub mod Rests
pub mod Pools
pub mod Ranges
