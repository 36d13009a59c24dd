-- What the proofs of several functions share. Assumes nothing.
pub mod Scanning
pub mod TokenRuns
pub mod TokenStarts
pub mod Lexed
pub mod Taking
pub mod Admitting
pub mod Placing
