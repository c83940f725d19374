pub mod Begins
pub mod Carrying
pub mod Compiling
pub mod Ends
pub mod Labelling
pub mod Labels
pub mod Lists
pub mod Ways
