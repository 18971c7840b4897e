pub mod Records
pub mod Lent
pub mod Carrying
pub mod Heard
pub mod Given
