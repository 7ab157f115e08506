pub mod Path
pub mod Candidates
pub mod View
pub mod Answering
pub mod Ways
pub mod Fault
pub mod Components
-- what only bodies and proofs need
pub mod Inner
