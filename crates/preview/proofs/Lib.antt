pub mod EveryEntry
pub mod FadeIn
pub mod Cases
