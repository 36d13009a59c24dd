-- Laws that the proofs of the functions use.
pub mod Parts
pub mod Defining
pub mod Used
