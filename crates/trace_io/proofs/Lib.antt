pub mod ValueLemmas
pub mod LineLemmas
pub mod TypeLemmas
pub mod HeaderLemmas
pub mod LinesLemmas
pub mod ReadLemmas
pub mod NextLemmas
pub mod TraceLemmas
pub mod WholeLemmas
pub mod RunLemmas
pub mod GenerateLemmas
pub mod CountLemmas
pub mod TallyLemmas
pub mod FormatLemmas
pub mod FieldLemmas
mod ExampleLemmas
