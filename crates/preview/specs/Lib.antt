pub mod Preview
pub mod FadeIn
