pub mod Must
pub mod Clash
pub mod Loose
pub mod Pairs
pub mod Blocks
pub mod Tables
pub mod Claims
pub mod Tallies
