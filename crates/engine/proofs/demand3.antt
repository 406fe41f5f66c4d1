-- The law of demand 3, that no venue reached from open gets 16, and the theorems of calls.
pub mod MarketLaws
pub mod Invariant
pub mod TallyLaws
pub mod WorkingKeeps
pub mod PassKeeps
pub mod EventKeeps
pub mod Demand3Law
pub mod SoundLaws
pub mod ReachedLaws
pub mod ExampleLaws
pub mod CallLaws
