pub mod Extremes
pub mod GroupParsing
pub mod Grouping
pub mod Groups
pub mod Joining
pub mod Lookups
pub mod Sums
pub mod View
-- what only bodies and proofs need
pub mod Inner
