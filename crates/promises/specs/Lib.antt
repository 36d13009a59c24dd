-- What an entry that searches promises: all are to be believed.
pub mod Plans
pub mod Promises
pub mod Listings
