pub use Rattle.dv_change.specs.Changes
pub use Rattle.dv_change.specs.Positions
pub mod Placed
-- what only bodies and proofs need
pub mod Inner
