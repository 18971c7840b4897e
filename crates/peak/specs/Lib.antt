pub mod Peaks
pub mod Steps
pub mod Claim
pub mod Theorem
pub mod Turns
