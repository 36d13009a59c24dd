-- The promises hold of what the defined search ends with, and each has one answer only. Assumes nothing.
pub mod Kept
pub mod Unique
pub mod Listed
