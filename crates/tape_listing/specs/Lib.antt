pub mod Listing
pub mod Calls
pub mod Listed
pub mod Pieces
