pub mod Records
pub mod Run
pub mod Contract
pub mod Cases
