-- The laws that the proofs cite, and that a text has one line only.
pub mod Replies
pub mod Unique
