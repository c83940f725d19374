pub mod ConvertedLemmas
