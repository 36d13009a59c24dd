-- The laws that the proofs cite, and that each promise has one answer only.
pub mod PlainEntry
pub mod ReadingEntry
pub mod WritingEntry
pub mod SessionEntries
pub mod ListEntry
pub mod GivingEntry
pub mod StoringEntries
