pub mod Written
pub mod Listing
pub mod Going
