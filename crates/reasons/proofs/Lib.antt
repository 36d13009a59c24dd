-- What is proved. Assumes nothing.
pub mod Unread
pub mod Parts
