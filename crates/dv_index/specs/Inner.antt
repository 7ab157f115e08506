-- Definitions and lemmas that need not be believed: invariants, codings, and what only bodies and proofs use.
pub mod Through
pub mod Search
pub mod InDirection
pub mod Ahead
pub mod View
pub mod Indexed
pub mod Change
pub mod Examples
pub mod IdLaws
