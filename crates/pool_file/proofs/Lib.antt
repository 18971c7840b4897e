pub mod Chunks
pub mod Gathering
