-- Laws of playing a day.
pub mod DayLaws
pub mod DayRunLaws
