-- Laws about the definitions.
pub mod Walks
pub mod Lists
pub mod Witnesses
pub mod Rounds
pub mod Forcing
pub mod Atom
