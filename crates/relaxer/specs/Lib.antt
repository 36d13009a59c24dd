-- What the entry promises: `Promise` is to be believed; `Offering` serves the code.
pub mod Promise
pub mod Offering
