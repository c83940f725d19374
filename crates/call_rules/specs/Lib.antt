pub mod Around
pub mod CallRules
pub mod Laws
pub mod Sites
pub mod Sizes
