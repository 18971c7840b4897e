-- What several proofs cite.
pub mod Again
pub mod Begun
pub mod Entering
pub mod Sounding
pub mod Told
pub mod Zeros
