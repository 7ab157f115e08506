pub mod Apply
pub mod Fault
pub mod OtherFaults
pub mod Outcome
pub mod Parsing
pub mod PathOrder
pub mod Update
pub mod UpdateView
pub mod View
pub mod Removals
pub mod Laws
-- what only bodies and proofs need
pub mod Inner
