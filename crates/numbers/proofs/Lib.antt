-- Laws that the layers above cite, and those that several proofs of this crate share.
pub mod TestLaws
pub mod TabulateLaws
pub mod ByteLaws
pub mod PlaceLaws
pub mod CountLaws
pub mod ReadLaws
pub mod WriteLaws
