-- The definitions that contracts cite.
pub mod Kinds
pub mod Actions
pub mod Readings
pub mod Laws
pub mod Examples
