-- The rules of documents 01 and 02 on the venue, in their order, then the venue that a run of words means, and what is asked of it.
pub mod Market
pub mod Working
pub mod Pass
pub mod Reports
pub mod Venue
pub mod Sound
pub mod Refusals
pub mod Run
pub mod Answers
pub mod Copy
pub mod Records
pub mod Layout
pub mod Fill
