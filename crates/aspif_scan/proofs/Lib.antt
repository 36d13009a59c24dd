-- What the proofs of several functions share. Assumes nothing.
pub mod Numbers
pub mod Laws
