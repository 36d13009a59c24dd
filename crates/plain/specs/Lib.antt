-- What `plain::solve` promises: `Promise` is to be believed; `Passes` and `Plain` serve the code's own functions.
pub mod Promise
pub mod Passes
pub mod Plain
