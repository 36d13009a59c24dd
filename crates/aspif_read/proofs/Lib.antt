-- What the proofs of several functions share, and the promises of `read`. Assumes nothing.
pub mod Puts
pub mod Bounds
pub mod LineLaws
pub mod RowLaws
pub mod Laws
pub mod Leaves
pub mod Members
pub mod Parsing
pub mod Rows
pub mod ReadOut
pub mod StatementRows
pub mod Ranges
pub mod Judging
pub mod Whole
pub mod Sections
pub mod Contract
