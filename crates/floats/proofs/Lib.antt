mod Rounding
mod Fields
mod Patterns
mod Index
mod Compared
pub mod Phases
