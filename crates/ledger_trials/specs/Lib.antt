pub mod Trials
pub mod RustLists1
pub mod RustLists2
pub mod RustLists3
pub mod RustLists4
pub mod ListsWithGains
pub mod ListsWithMarks
