pub mod LowBytes
pub mod Fields
pub mod Samples
