pub mod ExpandLemmas
pub mod SurfaceLemmas
