-- What the functions' proofs cite. Assumes nothing.
pub mod Arrays
pub mod Walks
pub mod Kept
