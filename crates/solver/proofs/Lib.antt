-- What is proved of the public functions. `Unique` is the last word: each promise has one answer only; `Places`: the place of a refusal is small. Assumes nothing.
pub mod Entry
pub mod Bytes
pub mod Offered
pub mod Approved
pub mod Explained
pub mod Values
pub mod Reached
pub mod Unique
pub mod Modes
pub mod Places
