-- Laws by which the code does what the rules say.
pub mod TabulateLaws
pub mod WordLaws
pub mod PlaceLaws
pub mod WordStepLaws
pub mod HoldsLaws
pub mod PositionLaws
pub mod RankLaws
pub mod StepLaws
pub mod StampLaws
pub mod SoundBookLaws
pub mod SoundOrderLaws
pub mod WalkLaws
pub mod FrontLaws
pub mod DepthLaws
