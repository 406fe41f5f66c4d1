pub mod Tests
pub mod Answers
pub mod Lists
pub mod SevenBit
