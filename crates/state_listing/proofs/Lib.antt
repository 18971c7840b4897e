pub mod Parts
pub mod Mixing
pub mod Folding
