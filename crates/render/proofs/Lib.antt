pub mod Rolling
pub mod Room
