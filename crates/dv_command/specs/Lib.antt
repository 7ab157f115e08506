pub mod Namespaces
pub mod Kinds
pub mod Fields
pub mod Replies
pub mod Tables
pub mod Lists
pub mod Forms
pub mod Entries
pub mod Asked
pub mod Sound
pub mod ListsView
-- what only bodies and proofs need
pub mod Inner
