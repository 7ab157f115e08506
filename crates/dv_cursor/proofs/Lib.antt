pub mod Batches
pub mod Ended
pub mod First
pub mod Full
pub mod Given
pub mod Joined
pub mod Kept
pub mod Places
