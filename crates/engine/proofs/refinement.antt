-- Laws by which the code does what the rules say.
pub mod MemoryLaws
pub mod StepLaws
pub mod RefuseLaws
pub mod RefusalLaws
pub mod WorkingSteps
pub mod SlideSteps
pub mod EnterLaws
pub mod CancelLaws
pub mod LeaveLaws
pub mod QuoteLaws
pub mod TimedLaws
pub mod AnswerLaws
pub mod ApplyLaws
pub mod OpeningLaws
pub mod CopyLaws
pub mod QuestionLaws
