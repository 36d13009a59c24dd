-- What is proved of the numbers of rules. Assumes nothing.
pub mod Numbered
