pub mod Expressions
pub mod ExpressionParsing
pub mod Parsing
pub mod Projecting
pub mod ProjectParsing
pub mod Row
pub mod Unwinding
pub mod ExpressionView
pub mod Fault
pub mod RowValueView
-- what only bodies and proofs need
pub mod Inner
