pub mod CommandLemmas
pub mod PromiseLemmas
pub mod TaskLemmas
pub mod SizeLemmas
pub mod EndLemmas
pub mod ConflictLemmas
pub mod CompleteLemmas
