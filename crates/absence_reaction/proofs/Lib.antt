pub mod ArmLemmas
pub mod CopyLemmas
pub mod CopyMeaning
pub mod EarlierLemmas
pub mod ElementLemmas
pub mod ElementMeaning
pub mod WriteLemmas
