pub mod ReadRefusals
pub mod RecordAnswers
pub mod RecordTrips
