-- Definitions and lemmas that need not be believed: invariants, codings, and what only bodies and proofs use.
pub mod AskedView
pub mod Conflicts
pub mod Crossings
pub mod EachLaws
pub mod Examples
pub mod ExpressionCode
pub mod ExpressionFalls
pub mod Shown
pub mod Turns
pub mod UnwoundRows
pub mod Valid
pub mod ValidRows
pub mod Ways
