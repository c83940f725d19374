pub mod NamedLemmas
pub mod SameLemmas
