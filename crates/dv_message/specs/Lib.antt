-- messages
pub mod Sections
pub mod Message
pub mod Commands
pub mod Bytes
pub mod Fault
-- what only bodies and proofs need
pub mod Inner
