pub mod Linking
pub mod Fronts
pub mod Coming
pub mod Beginning
pub mod Lawful
pub mod PartsAgain
pub mod Behind
pub mod Alone
pub mod Underway
pub mod Lists
pub mod Filling
mod Flat
pub mod Passing
pub mod Made
