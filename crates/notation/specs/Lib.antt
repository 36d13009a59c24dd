-- All of them are to be believed, in reading order.
pub mod Notation
pub mod Tokens
pub mod Parser
pub mod Aggregates
pub mod Grammar
pub mod Reading
