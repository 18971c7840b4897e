pub mod Answers
pub mod Numbers
pub mod Queues
pub mod QueueLaws
pub mod Handling
pub mod Fronts
pub mod Backs
pub mod HandlingLaws
