pub mod Index
pub mod Choice
pub mod Within
-- what only bodies and proofs need
pub mod Inner
