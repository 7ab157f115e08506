-- Definitions and lemmas that need not be believed: invariants, codings, and what only bodies and proofs use.
pub mod Examples
pub mod SectionsView
pub mod CommandsView
pub mod View
pub mod Batches
