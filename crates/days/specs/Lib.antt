-- A day in one call: the rules, then what a call gives.
pub mod Days
pub mod DayCalls
pub mod DayRuns
