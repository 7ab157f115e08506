pub mod Straight
pub mod Laws
pub mod Fault
pub mod Filter
pub mod Match
pub mod Parsing
pub mod View
-- what only bodies and proofs need
pub mod Inner
