pub mod Placed
pub mod Forms
pub mod Views
pub mod Changed
pub mod Flow
-- what only bodies and proofs need
pub mod Inner
