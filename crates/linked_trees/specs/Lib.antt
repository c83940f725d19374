pub mod Dotted
pub mod Fit
pub mod Framing
pub mod Laws
pub mod Linking
pub mod Naming
