-- The definitions that contracts cite.
pub mod Answers
pub mod Objects
pub mod Inputs
pub mod Hexadecimal
pub mod Details
pub mod Clear
pub mod Examples
pub mod Unicode
pub mod inner
