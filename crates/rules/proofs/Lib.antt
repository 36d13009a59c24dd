-- The laws, in reading order.
pub mod Asks
pub mod Rule
pub mod Scanned
pub mod Alone
