-- What is claimed of document 02's requests.
pub mod PassLaws
pub mod BookReportLaws
pub mod AccountLaws
pub mod MarketOrderLaws
pub mod HalfCentLaws
pub mod WordStepLaws
pub mod WhichCodeLaws
pub mod FillLaws
pub mod FallingAgainLaws
pub mod OwnerLaws
pub mod FullBookLaws
pub mod FullBookReachedLaws
pub mod StampLaws
pub mod SlidPriceLaws
pub mod PauseWatchLaws
pub mod FullWatchReachedLaws
