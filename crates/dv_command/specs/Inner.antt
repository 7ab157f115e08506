-- Definitions and lemmas that need not be believed: invariants, codings, and what only bodies and proofs use.
pub mod Needed
pub mod Sound
pub mod DocumentsView
pub mod RulesView
pub mod View
pub mod Rare
