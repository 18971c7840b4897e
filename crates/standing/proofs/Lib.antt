pub mod Scanning
pub mod Theorem
