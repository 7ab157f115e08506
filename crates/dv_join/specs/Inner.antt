-- Definitions and lemmas that need not be believed: invariants, codings, and what only bodies and proofs use.
pub mod Placed
pub mod Indexed
pub mod Turning
pub mod Listed
pub mod Bounds
pub mod Copied
pub mod Joined
pub mod Taking
