-- The definitions that the contracts cite.
pub mod Walk
pub mod Kept
