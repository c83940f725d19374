pub mod Anew
pub mod Words
pub mod Writer
