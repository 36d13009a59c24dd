-- What the proofs of the entry cite; that the promise has one answer only (`Unique`). Assumes nothing.
pub mod Numbers
pub mod Places
pub mod Chosen
pub mod Trials
pub mod Offers
pub mod Dropped
pub mod Entry
pub mod Unique
