pub mod Division
pub mod Greedy
pub mod Evidence
