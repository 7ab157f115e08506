-- Definitions and lemmas that need not be believed: invariants, codings, and what only bodies and proofs use.
pub mod Collected
pub mod Examples
pub mod Outcome
pub mod PathOrderLaws
pub mod StandIn
pub mod Standing
pub mod UpdateCode
pub mod Filling
pub mod FillView
