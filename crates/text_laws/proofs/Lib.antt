pub mod PickLemmas
pub mod CountLemmas
pub mod VerdictLemmas
pub mod ExistLemmas
pub mod StoryLemmas
pub mod ConflictLemmas
