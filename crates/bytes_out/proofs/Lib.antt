-- Laws that the proofs of this crate and of its callers use.
pub mod Laws
