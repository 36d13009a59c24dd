-- Laws about the definitions.
pub mod Alone
pub mod Scans
pub mod Together
mod Walks
mod Pairs
mod Amounts
mod Bytes
mod Backwards
mod Runs
mod Marked
mod Trues
mod Singles
mod Blamed
