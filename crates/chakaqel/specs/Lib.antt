-- Everything in this library.
pub mod Entries
