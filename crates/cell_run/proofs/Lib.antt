pub mod CallLemmas
pub mod InputLemmas
pub mod StoryLemmas
pub mod TypedLemmas
pub mod ExecuteLemmas
