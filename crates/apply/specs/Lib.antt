pub mod Applying
pub mod RecordCalls
