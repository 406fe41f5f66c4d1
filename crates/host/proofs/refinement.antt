-- Laws by which the calls do what the rules say.
pub mod HostLaws
pub mod CopyCount
pub mod PlayLaws
