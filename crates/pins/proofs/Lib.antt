-- What the proofs of several functions share, and what follows from the promises. Assumes nothing.
pub mod Words
pub mod Changes
pub mod Starting
pub mod Over
pub mod Planned
pub mod Unique
pub mod History
