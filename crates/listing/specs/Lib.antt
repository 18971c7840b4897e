pub mod Text
pub mod Putting
pub mod Pieces
pub mod Ascii
pub mod Cases
