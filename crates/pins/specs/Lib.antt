-- Sessions with pins as the code keeps them (02, request 10): `Memory` and `Session` are to be believed; `Setting` serves the code.
pub mod Memory
pub mod Setting
pub mod Session
