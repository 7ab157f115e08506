pub mod Batch
pub mod Cursors
-- what only bodies and proofs need
pub mod Inner
