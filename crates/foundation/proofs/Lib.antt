-- The laws, in reading order.
pub mod Words
pub mod Decided
pub mod Adding
pub mod Reading
pub mod Rules
pub mod Candidates
pub mod Walks
