-- What is claimed of document 02's requests.
pub mod FillLaws
pub mod FallingAgainLaws
pub mod OwnerLaws
pub mod FullBookLaws
pub mod SlidPriceLaws
pub mod PauseWatchLaws
