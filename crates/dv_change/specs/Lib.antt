pub mod Positions
pub mod Changes
pub mod Difference
pub mod Inputs
pub mod Raised
pub mod Work
-- what only bodies and proofs need
pub mod Inner
