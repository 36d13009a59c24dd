-- Laws about the definitions, and what the proofs of the code use.
pub mod Laws
pub mod Walks
pub mod Lists
pub mod Room
pub mod Counting
pub mod Putting
pub mod Placing
pub mod Taking
