pub mod LineLemmas
pub mod BackLemmas
mod ExampleLemmas
