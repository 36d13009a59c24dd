-- What the proofs of several functions share, and for callers `Lists`, `Walk`, `Inside` and `Graph`. Assumes nothing.
pub mod Lists
pub mod Sets
pub mod Walk
pub mod Inside
pub mod Graph
pub mod Words
pub mod Putting
pub mod Visiting
pub mod Leading
pub mod Settled
pub mod Members
