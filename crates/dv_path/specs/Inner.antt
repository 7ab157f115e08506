-- Definitions and lemmas that need not be believed: invariants, codings, and what only bodies and proofs use.
pub mod GatheredKeys
pub mod Apart
pub mod Groups
pub mod GroupView
pub mod Examples
pub mod Fielded
pub mod ResultLaws
