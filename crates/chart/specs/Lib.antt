pub mod Scale
pub mod Laws
pub mod Cases
