-- Definitions and lemmas that need not be believed: invariants, codings, and what only bodies and proofs use.
pub mod Fault
