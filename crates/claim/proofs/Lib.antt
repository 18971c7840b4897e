-- Lemmas, and the theorems that rest on definitions of specs/.
pub mod Theorem
pub mod Refused
pub mod Steps
