pub mod Line
pub mod Faults
-- what only bodies and proofs need
pub mod Inner
