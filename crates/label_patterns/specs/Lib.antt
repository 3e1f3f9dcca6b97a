-- The definitions that contracts cite.
pub mod Patterns
pub mod Sets
pub mod Places
pub mod Trees
pub mod Matches
pub mod Rules
pub mod Conditions
pub mod Laws
pub mod CachedPlaces
pub mod FirstEnds
pub mod Barring
pub mod Tests
pub mod TestLaws
pub mod inner
