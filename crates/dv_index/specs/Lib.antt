pub mod Search
pub mod Indexed
pub mod Unique
-- what only bodies and proofs need
pub mod Inner
