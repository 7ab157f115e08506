-- connections that are served at once
pub mod Channel
pub mod Schedule
pub mod Outside
pub mod View
pub mod Host
-- what only bodies and proofs need
pub mod Inner
