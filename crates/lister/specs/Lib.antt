-- What the entry promises: `Listing` is to be believed; `Telling` serves the code.
pub mod Listing
pub mod Telling
