-- What the proofs of several functions share, in reading order. Assumes nothing.
pub mod Liking
pub mod Undefined
pub mod Stepping
pub mod Walking
pub mod Alone
pub mod Sides
pub mod Meant
pub mod Entry
pub mod Unique
