-- What is said of a table: `Refusals` is to be believed; `Judging` serves the code.
pub mod Refusals
pub mod Judging
