-- The definitions that the contracts cite.
pub mod Layout
pub mod Props
pub mod Accepted
