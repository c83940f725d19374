pub mod BuildLemmas
pub mod FrontLemmas
pub mod LeastLemmas
pub mod OneLemmas
