-- The definitions that inner functions and private fields cite.
pub mod Kept
pub mod Cuts
pub mod Cells
pub mod Columns
