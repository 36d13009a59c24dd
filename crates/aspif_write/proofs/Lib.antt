-- Laws that the proofs of the functions use, and that the promise has one answer only.
pub mod Contents
pub mod Entry
pub mod Unique
