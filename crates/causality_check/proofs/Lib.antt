pub mod GraphLemmas
pub mod TurnLemmas
pub mod SearchLemmas
pub mod ShortestLemmas
pub mod GatherLemmas
pub mod OrderLemmas
