-- Reports and records as bytes.
pub mod ReportWordLaws
pub mod BoundLaws
pub mod RecordLaws
pub mod RecordExamples
