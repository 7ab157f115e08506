-- Definitions and lemmas that need not be believed: invariants, codings, and what only bodies and proofs use.
pub mod AccumulatorStates
pub mod Alike
pub mod Counting
pub mod Examples
pub mod Gathering
pub mod GroupCode
pub mod GroupLaws
pub mod GroupStates
pub mod GroupView
pub mod KeySets
pub mod Leading
pub mod Places
pub mod StateView
pub mod SumBounds
pub mod Valid
pub mod Laws
pub mod KeyLaws
