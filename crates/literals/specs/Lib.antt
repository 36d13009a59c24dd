-- The definitions that the contracts cite.
pub mod Scan
pub mod Elements
pub mod Settled
