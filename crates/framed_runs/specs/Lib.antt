pub mod Laws
pub mod Parameters
