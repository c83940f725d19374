pub mod FitLemmas
pub mod KnownLemmas
pub mod MeaningLemmas
pub mod RepeatLemmas
pub mod SiteLemmas
