-- What is proved of the cases. Assumes nothing.
pub mod Table
pub mod Solved
