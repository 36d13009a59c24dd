-- What is proved of values and reasons. Assumes nothing.
pub mod Compared
pub mod Exact
pub mod Alike
pub mod Settling
pub mod Shortest
pub mod Walk
