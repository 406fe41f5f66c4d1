-- Laws of the calls for hosts.
pub mod refinement
pub mod demand3
pub mod requests
