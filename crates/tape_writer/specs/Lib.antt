pub mod Writing
pub mod CasesOfWriting
pub mod Claim
pub mod Parts
pub mod Sizes
pub mod LittleEndian
pub mod ReadBack
pub mod WrittenAgain
