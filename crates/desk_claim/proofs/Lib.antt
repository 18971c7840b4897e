-- Lemmas, and the theorems that rest on definitions of specs/.
pub mod Draining
pub mod Theorem
pub mod Related
pub mod Backs
pub mod Fronts
pub mod LettingGo
pub mod Messages
pub mod Refusals
pub mod Refused
