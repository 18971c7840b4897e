pub mod Refusals
pub mod Stretch
pub mod Insertion
pub mod Keys
pub mod Draining
pub mod Reading
pub mod Claim
pub mod Cases
