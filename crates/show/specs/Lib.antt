-- `Promise` is to be believed.
pub mod Promise
