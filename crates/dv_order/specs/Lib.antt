pub mod Order
pub mod Classes
pub mod Key
pub mod Source
pub mod LentKeys
pub mod OwnKeys
pub mod Same
pub mod Codes
-- what only bodies and proofs need
pub mod Inner
