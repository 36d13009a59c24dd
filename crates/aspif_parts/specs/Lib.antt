-- The definitions that the contracts of the writer's functions cite.
pub mod Held
pub mod Uses
pub mod Parts
