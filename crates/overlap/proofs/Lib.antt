pub mod Draining
pub mod Gathering
pub mod Listing
pub mod Scanning
pub mod Theorem
