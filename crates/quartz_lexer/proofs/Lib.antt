pub mod Closes
pub mod Fronts
pub mod Laws
pub mod Runs
pub mod Spellings
pub mod Steps
