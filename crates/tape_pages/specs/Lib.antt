pub mod Arguments
pub mod Opening
pub mod Records
