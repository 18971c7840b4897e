pub mod Rounded
pub mod Steps
pub mod SmoothWithin
