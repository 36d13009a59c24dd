-- `Bytes`, `Promises` and `Restoring` are to be believed; `Machine` and `Taking` serve the code.
pub mod Bytes
pub mod Machine
pub mod Promises
pub mod Restoring
pub mod Taking
