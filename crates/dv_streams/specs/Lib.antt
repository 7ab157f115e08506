pub mod Failures
pub mod Stream
