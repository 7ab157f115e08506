pub mod Check
pub mod File
-- what only bodies and proofs need
pub mod Inner
