-- The definitions that contracts cite.
pub mod Said
pub mod Dispositions
pub mod Listings
pub mod Collisions
pub mod Answers
pub mod Transcript
pub mod Rulesets
