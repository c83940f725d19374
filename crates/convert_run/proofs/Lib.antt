pub mod ConvertLemmas
