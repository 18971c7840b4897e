pub mod Standings
pub mod Theorem
pub mod Cases
pub mod Unmoved
