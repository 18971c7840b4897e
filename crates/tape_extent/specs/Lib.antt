pub mod Playing
pub mod Extents
pub mod Paces
pub mod PacesPlay
pub mod Example
