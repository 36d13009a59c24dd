-- What the proofs of several functions share. Assumes nothing.
pub mod Scanning
pub mod Numbers
pub mod Runs
pub mod Reading
pub mod Callers
pub mod Putting
pub mod Decimal
pub mod Lines
