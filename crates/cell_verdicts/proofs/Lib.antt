pub mod DecideLemmas
pub mod CycleLemmas
pub mod ValueLemmas
pub mod FactLemmas
pub mod PairLemmas
