pub mod Checks
pub mod Among
mod Lengths
mod SoundFields
mod Sounding
pub mod Errors
mod Needs
mod Near
mod Rare
