pub mod Theorem
pub mod DeskOrder
