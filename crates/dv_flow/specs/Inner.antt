-- Definitions and lemmas that need not be believed: invariants, codings, and what only bodies and proofs use.
pub mod Bounds
pub mod Rows
pub mod Gathered
pub mod Matching
pub mod Projecting
pub mod Unwinding
pub mod Sorting
pub mod Limiting
