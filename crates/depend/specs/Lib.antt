-- The definitions that the contracts cite, in reading order.
pub mod Circles
pub mod Cycles
