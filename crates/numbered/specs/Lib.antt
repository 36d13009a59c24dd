-- The numbers of rules.
pub mod Numbered
