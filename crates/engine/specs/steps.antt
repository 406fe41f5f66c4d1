-- What the inner steps of the engine need and leave.
pub mod Lent
pub mod Memory
pub mod Steps
