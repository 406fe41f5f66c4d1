-- The calls for hosts, by the rules.
pub mod Host
pub mod Observe
pub mod Fill
