-- What is proved of the judge. `Unique` is the last word: a table has one judgement. Assumes nothing.
pub mod Refusals
pub mod Judged
pub mod Unique
pub mod Places
