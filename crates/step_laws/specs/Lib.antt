pub mod Conditions
pub mod Bits
pub mod Laws
pub mod One
pub mod Exact
