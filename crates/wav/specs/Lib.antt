pub mod Header
pub mod CasesOfHeaders
pub mod Frames
pub mod Interleaved
pub mod Data
pub mod Written
