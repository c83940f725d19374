pub mod Expand
pub mod Kernel
pub mod Least
pub mod Storage
pub mod Surfaces
pub mod Tree
