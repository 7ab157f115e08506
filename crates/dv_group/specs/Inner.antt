-- Definitions and lemmas that need not be believed: invariants, codings, and what only bodies and proofs use.
pub mod Members
pub mod Held
pub mod Turned
pub mod Grouped
pub mod AccumulatorStates
pub mod StateView
pub mod SumBounds
