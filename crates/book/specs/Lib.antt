pub mod rules
pub mod claims
pub mod steps
