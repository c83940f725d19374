pub mod Reached
pub mod Meeting
pub mod Laws
