pub mod Loading
pub mod Pools
