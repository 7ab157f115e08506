-- Definitions and lemmas that need not be believed: invariants, codings, and what only bodies and proofs use.
pub mod Keys
pub mod Pairs
pub mod Ids
pub mod Index
pub mod Within
pub mod View
pub mod Ahead
pub mod Interval
pub mod Decided
pub mod Examples
pub mod ListLaws
pub mod PairLaws
