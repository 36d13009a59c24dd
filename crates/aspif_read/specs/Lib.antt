-- Definitions that follow the code, for the contracts of inner functions; and the contract of `read`.
pub mod Survey
pub mod Writing
pub mod Reads
