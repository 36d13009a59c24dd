-- What is proved of the notation. Assumes nothing.
pub mod Examples
pub mod ReadExamples
pub mod Runs
pub mod TokenLists
pub mod ReadAggregates
pub mod ReadRules
pub mod InTurn
pub mod ReadLiterals
pub mod ReadTable
pub mod Lexed
pub mod LexedTable
pub mod Back
