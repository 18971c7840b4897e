-- What several proofs cite.
pub mod Codes
