pub mod Verdicts
pub mod Stories
pub mod Conflicts
