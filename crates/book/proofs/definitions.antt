-- Laws of the rules.
pub mod ShareLaws
pub mod OrderLaws
pub mod RisingLaws
pub mod OrderConditionLaws
pub mod CounterpartyLaws
pub mod PriorityLaws
pub mod MeetingLaws
pub mod MatchingLaws
pub mod OnlyTradingLaws
pub mod OwnOrderLaws
pub mod FillLaws
