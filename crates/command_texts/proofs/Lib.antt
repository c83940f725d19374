pub mod SmallLemmas
pub mod LineLemmas
pub mod CountedLemmas
