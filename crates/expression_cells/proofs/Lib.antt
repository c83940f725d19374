pub mod LiteralLemmas
pub mod TreeLemmas
