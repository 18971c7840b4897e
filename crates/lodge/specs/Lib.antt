pub mod Refusals
pub mod Hours
pub mod Search
pub mod Firsts
pub mod Cases
pub mod Theorem
