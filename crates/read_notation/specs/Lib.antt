-- The definitions that the contracts cite.
pub mod Scanning
pub mod Lexemes
pub mod Views
pub mod Running
pub mod Admitting
pub mod Naming
pub mod Placing
