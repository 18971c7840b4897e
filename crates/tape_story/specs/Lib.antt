pub mod Asides
pub mod Lines
