-- What is proved of the steps. Assumes nothing.
pub mod Lits
pub mod Lift
pub mod Indep
pub mod Ending
