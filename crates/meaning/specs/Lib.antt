-- What a program means (01, "Meaning"), in reading order. `Program` to `Foundedness` are to be believed; `Cycles` and `Enumerated` hold tests that are proved exact.
pub mod Lists
pub mod Cond
pub mod Program
pub mod Aggregates
pub mod Answers
pub mod Dependency
pub mod Foundedness
pub mod Cycles
pub mod Enumerated
