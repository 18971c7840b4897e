pub mod LetGo
pub mod Lawful
pub mod LawfulCalls
pub mod Partition
pub mod ClaimByRelation
pub mod DeskMeets
