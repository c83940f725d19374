pub mod Answers
pub mod FormTerms
pub mod Found
pub mod Laws
pub mod Passed
pub mod Read
pub mod Sound
pub mod Walk
