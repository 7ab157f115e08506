pub mod Tree
pub mod View
pub mod Names
pub mod Spelling
pub mod Fault
pub mod Measure
pub mod Removing
pub mod FieldChange
pub mod Results
pub mod Short
pub mod Kept
pub mod Widths
-- what only bodies and proofs need
pub mod Inner
