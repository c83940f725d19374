pub mod ActLemmas
pub mod BackLemmas
pub mod EnvLemmas
pub mod ExprLemmas
pub mod ForwardLemmas
pub mod LawLemmas
pub mod RowLemmas
pub mod TermLemmas
