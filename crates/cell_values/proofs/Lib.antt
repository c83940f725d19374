pub mod DoneLemmas
pub mod RaisedLemmas
