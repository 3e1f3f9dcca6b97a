-- The definitions that inner functions and private fields cite.
pub mod Begun
pub mod Openings
pub mod Texts
