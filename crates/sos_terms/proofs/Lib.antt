pub mod FitLemmas
pub mod ReactLemmas
