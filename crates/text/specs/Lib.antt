-- The definitions that the contracts cite.
pub mod Text
pub mod Scan
pub mod Line
pub mod Putting
