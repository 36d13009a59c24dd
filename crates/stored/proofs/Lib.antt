-- Laws of the stored form.
pub mod Forms
pub mod Steps
pub mod Leading
pub mod NumberLaws
pub mod Laying
pub mod NameLaws
pub mod Exact
pub mod Going
pub mod Storing
pub mod Telling
pub mod NamesTold
pub mod Scanning
pub mod Restored
pub mod Unique
pub mod Trips
