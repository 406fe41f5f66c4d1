pub mod StepLaws
-- Laws that the layers above cite.
pub mod PriceLaws
pub mod RestrictionLaws
pub mod HalfCentLaws
pub mod FallingAgainLaws
pub mod PauseLaws
pub mod KeptWordLaws
