-- Everything in this library.
pub mod Rows
pub mod Memory
pub mod Laws
pub mod Slots
pub mod Edits
pub mod Clock
pub mod Sources
