mod Sessions
mod Fronts
mod Runs
mod Straight
mod Replies
mod Counting
mod Streams
mod Worlds
mod Soundness
mod Cuts
mod Worked
mod SteppedAlong
mod Pieces
mod Talks
mod Ran
mod Wanting
mod Alike
mod Counted
mod Standing
mod Plain
pub mod Plays
pub mod Orders
