-- Each promise has one answer only, and a place loses nothing in 32 bits.
pub mod Unique
pub mod Places
