-- The definitions that contracts cite.
pub mod Readings
pub mod Drafts
pub mod Laws
pub mod inner
