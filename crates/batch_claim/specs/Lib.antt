pub mod Singles
pub mod Lists
pub mod WithBatches
pub mod Extent
pub mod ExtentProof
pub mod Theorem
