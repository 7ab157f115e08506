pub mod Places
pub mod Inserted
pub mod Removed
pub mod Replaced
pub mod Changed
pub mod Standing
pub mod Walked
