-- Lemmas, and the theorems that rest on definitions of specs/.
pub mod Cases
pub mod StartsFirst
