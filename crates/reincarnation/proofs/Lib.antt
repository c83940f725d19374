pub mod CarryLemmas
pub mod EnterLemmas
pub mod MeaningLemmas
