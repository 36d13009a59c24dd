-- What the proofs of several functions share. Assumes nothing.
pub mod Ordered
pub mod Turns
pub mod Leading
pub mod Plans
pub mod States
pub mod Settled
pub mod RuleTurn
pub mod AtomTurn
pub mod Passing
