pub mod State
pub mod Changes
pub mod Scan
pub mod Effects
pub mod Views
pub mod IndexMaking
pub mod Told
pub mod Marks
-- what only bodies and proofs need
pub mod Inner
