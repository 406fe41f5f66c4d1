-- Laws that the layers above cite, and the theorems of docs/CLAIMS.md.
pub mod demand3
pub mod bytes
pub mod refinement
pub mod requests
