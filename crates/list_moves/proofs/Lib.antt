-- What several proofs cite.
pub mod Rising
pub mod Sweeping
pub mod Storing
pub mod Starting
pub mod Requeuing
