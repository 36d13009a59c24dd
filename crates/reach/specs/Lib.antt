-- The definitions that the contracts cite, in reading order.
pub mod Arcs
pub mod Visits
