pub mod Listen
pub mod Serve
-- what only bodies and proofs need
pub mod Inner
