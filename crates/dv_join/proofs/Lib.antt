pub mod Rows
pub mod Indexes
pub mod Sharing
pub mod Owed
pub mod Told
pub mod Bounds
pub mod Copied
pub mod Lawful
