-- What the proofs of several functions share, and for callers `Inside` and `Exact`. Assumes nothing.
pub mod Walk
pub mod Skipped
pub mod Naming
pub mod Exact
pub mod Tested
