-- `Promise` is to be believed; `Laying` serves the code's own functions.
pub mod Promise
pub mod Laying
