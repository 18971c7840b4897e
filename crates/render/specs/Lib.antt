pub mod Rendering
pub mod Example
pub mod Heard
pub mod Follows
pub mod Room
