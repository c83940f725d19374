pub mod BoundLemmas
pub mod EndLemmas
pub mod LeastSteps
pub mod SoundLemmas
pub mod UnscopedLemmas
pub mod WidthLemmas
