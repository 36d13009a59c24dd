-- What the proofs of several functions share, and the laws of the table. Assumes nothing.
pub mod Drops
pub mod Run
pub mod Faults
pub mod Returned
pub mod Parts
pub mod Sections
pub mod Sound
pub mod Placing
pub mod Whole
pub mod LaidAggregates
pub mod LaidRules
pub mod Complete
pub mod FirstFault
pub mod Accepted
pub mod Theorem
pub mod Members
