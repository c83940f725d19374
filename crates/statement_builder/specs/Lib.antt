pub mod Built
pub mod Chains
pub mod Guards
pub mod Joins
pub mod Resumes
pub mod Scopes
pub mod Shorts
pub mod Starts
