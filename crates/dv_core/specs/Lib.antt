pub mod State
pub mod Storable
pub mod Statements
pub mod Writes
pub mod Find
pub mod More
pub mod Indexes
pub mod Stats
pub mod Marks
pub mod Step
pub mod Told
pub mod Load
pub mod Steps
pub mod Runs
pub mod Part
pub mod Sound
-- what only bodies and proofs need
pub mod Inner
