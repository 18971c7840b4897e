pub mod Steps
pub mod Rounds
pub mod HeapOrder
pub mod Stands
pub mod Waits
