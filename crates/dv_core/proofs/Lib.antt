mod Spellings
pub mod Stored
pub mod Statements
mod Plain
mod Steps
mod Endings
mod Bare
mod Works
mod Changed
mod CursorMoves
mod Cursored
mod Made
mod Standing
mod Done
mod Unique
mod Marking
mod Marked
mod Kept
mod Texts
mod Valid
mod Asking
mod Ordered
mod Parts
mod Named
mod Viewed
mod SpelledRows
mod SpelledErrors
mod SpelledRefusals
mod Spelled
mod Shown
mod Worked
mod WorkedFinds
mod WorkedViews
mod Mores
mod Parted
mod Alone
mod WorkedLoads
pub mod Single
pub mod Firsts
mod Again
