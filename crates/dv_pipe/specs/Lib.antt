pub mod Laws
pub mod Sources
pub mod StageParsing
pub mod Stages
-- what only bodies and proofs need
pub mod Inner
