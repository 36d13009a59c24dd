-- Laws that the proofs of the functions use.
pub mod Held
pub mod Marking
pub mod Numbers
pub mod Texts
pub mod Elements
