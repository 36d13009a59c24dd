-- The definitions that the contracts cite, in reading order.
pub mod Roles
pub mod Contents
pub mod Grammar
pub mod Promises
pub mod Places
