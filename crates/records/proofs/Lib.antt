-- Laws that hosts and programs cite.
pub mod ReadingLaws
pub mod RecordCalls
