pub mod Choices
pub mod HandlingLaws
