-- The definitions that contracts cite.
pub mod Names
pub mod Settings
pub mod CommandLine
pub mod Words
pub mod Inputs
pub mod Laws
pub mod Examples
pub mod Uses
pub mod Causes
pub mod inner
