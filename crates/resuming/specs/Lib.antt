pub mod Parts
pub mod Again
pub mod Resumes
pub mod Moved
pub mod Onward
pub mod Reasons
pub mod Full
pub mod Resuming
