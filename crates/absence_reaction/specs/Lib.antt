pub mod Closing
pub mod Earlier
pub mod Meaning
