pub mod Walks
pub mod Given
pub mod Fades
pub mod Rows
pub mod Adds
