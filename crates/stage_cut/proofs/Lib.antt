pub mod WeightLemmas
pub mod DivisionLemmas
pub mod GreedyLemmas
pub mod EvidenceLemmas
