-- What the public functions promise: `Solving`, `Approving` and `Explaining` are to be believed; `Plans` serves the code's own functions.
pub mod Solving
pub mod Approving
pub mod Explaining
pub mod Plans
