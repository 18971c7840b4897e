-- Lemmas, and the theorems that rest on definitions of specs/.
pub mod Qualifying
pub mod Exact
pub mod Theorem
pub mod AnyOrder
pub mod Engines
pub mod Marked
