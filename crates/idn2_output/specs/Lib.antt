-- The definitions that contracts cite.
pub mod OutputLines
pub mod Writing
pub mod Objects
pub mod Statuses
