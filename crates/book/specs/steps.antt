-- What the inner steps of the book need and leave.
pub mod BookSteps
pub mod Positions
pub mod WordSteps
pub mod RecordWalk
pub mod LentRuns
