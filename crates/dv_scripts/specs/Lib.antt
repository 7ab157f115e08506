pub mod Events
pub mod Output
pub mod Script
pub mod Stops
-- what only bodies and proofs need
pub mod Inner
