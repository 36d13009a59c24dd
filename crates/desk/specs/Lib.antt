-- The definitions that the contracts cite.
pub mod Plain
pub mod Reading
pub mod Writing
pub mod Session
pub mod List
pub mod Giving
pub mod Storing
