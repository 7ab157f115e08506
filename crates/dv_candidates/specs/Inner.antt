-- Definitions and lemmas that need not be believed: invariants, codings, and what only bodies and proofs use.
pub mod Fold
pub mod Places
pub mod Onward
pub mod Examples
