pub mod Reading
-- what only bodies and proofs need
pub mod Inner
