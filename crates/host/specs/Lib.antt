pub mod rules
pub mod claims
