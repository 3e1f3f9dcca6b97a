-- The definitions that inner functions and private fields cite.
pub mod Blocks
pub mod DocumentSteps
pub mod Runs
pub mod TagSteps
