-- What the proofs of several functions share. Assumes nothing.
pub mod Passing
pub mod Falls
pub mod Stepped
pub mod Handing
pub mod Quiet
