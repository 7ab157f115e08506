-- Definitions and lemmas that need not be believed: invariants, codings, and what only bodies and proofs use.
pub mod Links
pub mod Moving
pub mod Hosting
pub mod Serving
pub mod Examples
