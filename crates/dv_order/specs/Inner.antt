-- Definitions and lemmas that need not be believed: invariants, codings, and what only bodies and proofs use.
pub mod Key
pub mod Sources
pub mod TotalOrder
pub mod KeyLaws
pub mod SameOrder
pub mod OwnKeys
pub mod SameLaws
pub mod CodeLaws
