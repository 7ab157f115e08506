-- Definitions and lemmas that need not be believed: invariants, codings, and what only bodies and proofs use.
pub mod Asked
pub mod Blocks
pub mod Choices
pub mod Examples
pub mod Filter
pub mod FilterCode
pub mod PathFault
pub mod ViewFalls
pub mod Parsing
pub mod FilterLaws
