pub mod DerivedLemmas
pub mod DerivingLemmas
pub mod LexingLemmas
pub mod NameLemmas
