-- Definitions and lemmas that need not be believed: invariants, codings, and what only bodies and proofs use.
pub mod Tree
pub mod TreeCode
pub mod ViewFalls
pub mod Covers
pub mod CoversFall
pub mod Places
pub mod Spelled
pub mod Weight
pub mod Put
pub mod Removing
pub mod ListLaws
pub mod TreeLaws
pub mod LeftLaws
pub mod ValidLaws
pub mod NameLaws
pub mod ByteLaws
