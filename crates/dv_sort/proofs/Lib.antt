pub mod Insertion
pub mod Standing
pub mod Kept
pub mod Told
pub mod Bars
