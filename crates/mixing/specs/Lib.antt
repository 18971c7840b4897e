pub mod Blocks
pub mod Placed
pub mod LeftOut
