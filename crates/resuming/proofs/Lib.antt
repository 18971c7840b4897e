-- Lemmas, and the theorems that rest on definitions of specs/.
pub mod Samples
pub mod Fuel
pub mod Unrolls
pub mod FullMoves
pub mod Moved
pub mod Onward
pub mod Reasons
pub mod Full
pub mod Resuming
