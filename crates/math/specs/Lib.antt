pub mod Curves
pub mod Constants
pub mod Cases
pub mod SmoothError
pub mod Addition
