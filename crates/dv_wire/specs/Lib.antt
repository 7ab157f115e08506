-- sessions
pub mod Schedule
pub mod Playing
pub mod Order
pub mod Wants
pub mod Standing
pub mod Service
pub mod Hosted
pub mod Sound
pub mod Fault
-- words that only bodies need
pub mod View
-- what only bodies and proofs need
pub mod Inner
