pub mod Bytes
pub mod Lines
pub mod Endings
pub mod Rows
