pub mod Walk
pub mod Turns
pub mod Samples
pub mod Channels
pub mod Adding
