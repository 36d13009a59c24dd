-- The laws that the proofs cite.
pub mod Reports
pub mod Numbers
