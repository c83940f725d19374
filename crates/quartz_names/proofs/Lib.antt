pub mod CallLemmas
pub mod KernelLemmas
pub mod LeastLemmas
pub mod NumberedLemmas
pub mod ScopeLemmas
pub mod TargetLemmas
pub mod WalkLemmas
