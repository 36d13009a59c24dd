-- Laws that the proofs of the functions use, and that the promise has one answer only.
pub mod Joined
pub mod Turns
pub mod Texts
pub mod Held
pub mod Entry
pub mod Unique
