-- The definitions that contracts cite.
pub mod Outputs
pub mod Runs
