-- Lemmas, and the theorems that rest on definitions of specs/.
pub mod SinglesProof
pub mod ListsProof
pub mod Cases
pub mod ExtentProof
pub mod Theorem
