pub mod Sorting
pub mod Front
pub mod Keys
-- what only bodies and proofs need
pub mod Inner
