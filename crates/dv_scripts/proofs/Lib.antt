mod Pieces
mod Replies
mod Scheduled
mod Scripts
mod Stopped
