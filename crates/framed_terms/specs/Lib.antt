pub mod Framed
pub mod FramedRuns
pub mod Laws
pub mod Reacting
pub mod Similar
