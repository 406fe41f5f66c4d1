-- The theorems of chains of calls.
pub mod HostCallLaws
pub mod HostDayLaws
