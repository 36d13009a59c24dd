-- What the proofs of the entry cite; that the promise has one answer only (`Unique`); that the first row is what `solve` answers (`FirstRow`). Assumes nothing.
pub mod Rows
pub mod Entry
pub mod Unique
pub mod FirstPlan
pub mod FirstRow
