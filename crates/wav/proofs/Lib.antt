pub mod Steps
pub mod Headers
pub mod Interleaved
pub mod Written
