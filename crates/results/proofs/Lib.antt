-- What is proved of the results. Assumes nothing.
pub mod Determined
