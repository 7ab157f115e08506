mod Keys
mod ByNamespace
mod Stopping
mod Breaking
mod ByEntry
mod Found
mod Explaining
pub mod Scanned
mod Deleted
mod Updated
mod Order
pub mod ToldChanges
pub mod ToldViews
mod Keeping
mod Refreshed
mod Marking
mod Cutting
mod StatsTold
mod Sourced
mod Making
mod Kept
mod MadeIndexes
mod Stale
mod OverLive
mod Foremost
mod Fronts
mod ById
mod Narrowed
mod Lent
mod Counting
