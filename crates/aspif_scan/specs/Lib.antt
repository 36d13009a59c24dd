-- Definitions that follow the code, for its contracts.
pub mod Number
pub mod Machine
pub mod Marks
pub mod Scan
